-- Private: what is found for the rules that a path leads, rule by rule.
use Rattle.std.specs.Prelude.{ℕ, ◌≡◌, ◌<◌, ◌↔◌, not, Bool, true, List, ◌+◌, [], ◌∷◌, length, map, is_some, Contains}
use Rattle.std.specs.Option.{option_map_or}
use Rattle.ssr_base_trees.specs.Meanings.{Meanings}
use Rattle.ssr_base_trees.specs.Workspace.{Workspace}
use Rattle.ide_ssr_resolved_rule.specs.Resolved.{ResolvedRule}
use Rattle.ide_ssr_bindings.specs.Found.{FoundMatch}
use Rattle.ide_ssr_search.specs.Context.{Context}
use Rattle.ide_ssr_leading.specs.Leading.{picked_path}
use Rattle.ide_ssr_leading.specs.Found.{IsLedFound}

-- a match of a rule that a path leads, one of the first so many
pub record IsLedBefore (w : Workspace) (m : Meanings) (context : Context) (rules : List ResolvedRule) (place : ℕ) (found : FoundMatch) : Type 0 where
  pub is : IsLedFound w m context rules found
  pub led : is_some (picked_path is.rule) ≡ true
  pub before : found.rule < place

abbrev pub AreLedFoundTo : Workspace → Meanings → Context → List ResolvedRule → ℕ → List FoundMatch → Type 0
AreLedFoundTo w m context rules place ms = (found : FoundMatch) → Contains ms found ↔ IsLedBefore w m context rules place found

-- for each rule whether no path leads it
abbrev pub are_others : List ResolvedRule → List Bool
are_others rules = map (λ rule. not (is_some (picked_path rule))) rules

-- how many usages the path has that leads a rule
abbrev pub usages_for : Meanings → ResolvedRule → ℕ
usages_for m rule = option_map_or (λ path. length (m.usages path.res)) (picked_path rule) 0

abbrev pub usages_in : Meanings → List ResolvedRule → ℕ
usages_in m [] = 0
usages_in m (rule ∷ rules) = usages_for m rule + usages_in m rules
