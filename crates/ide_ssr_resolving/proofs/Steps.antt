-- What a step of the walk says of its node.
use Rattle.std.proofs.Common.{◌≡◌, ℕ, Bool, true, false, ◌&&◌, ◌||◌, not, List, Option, Some, None, refl, ap, ◌∙◌}
use Rattle.std.specs.Prelude.{if◌then◌else◌}
use Rattle.std.specs.List.{list_any}
use Rattle.std.specs.Option.{is_none, is_some, option_and_then, option_map_or}
use Rattle.ssr_base_trees.specs.declared.ids.ScopeId.{ScopeId}
use Rattle.ssr_base_trees.specs.declared.semantics.Res.{Res}
use Rattle.ssr_base_trees.specs.Meanings.{Meanings}
use Rattle.ssr_syntax_tree.specs.Places.{Node}
use Rattle.ssr_syntax_tree.specs.Syntax.{Forest}
use Rattle.ide_ssr_resolving.specs.declared.used.Step.{Step}
use Rattle.ide_ssr_resolving.specs.declared.used.Step.TheVariants as steps
use Rattle.ide_ssr_resolving.specs.Private.Steps.{step_by, path_step, step_of}
use Rattle.ide_ssr_resolved_rule.specs.Paths.{qualifying}
use Rattle.ide_ssr_resolving.specs.Resolving.{resolution}
use Rattle.ide_ssr_resolving.specs.Used.{is_path, ends_in_self, has_generics, holds_stand_in, is_whole, is_usable, used, use_of, stops, is_unresolved}

-- a step, and whether its node is used, ends the walk down, and is refused
abbrev pub Says : Step → Option Res → Bool → Bool → Type 0
Says steps.Enter taken ends refused = (taken ≡ None) × (ends ≡ false) × (refused ≡ false)
Says steps.Pass taken ends refused = (taken ≡ None) × (ends ≡ true) × (refused ≡ false)
Says (steps.Use res) taken ends refused = (taken ≡ Some res) × (ends ≡ true) × (refused ≡ false)
Says steps.Refuse taken ends refused = refused ≡ true

module _ (m : Meanings) where
  abbrev step_at : Bool → Bool → Bool → Option Res → Step
  step_at path own whole res =
      if path then if own then steps.Pass else if whole then option_map_or (step_by m) res steps.Refuse else steps.Enter else steps.Enter

  abbrev use_at : Bool → Bool → Bool → Option Res → Option Res
  use_at path own whole res = if path && (not own && whole) then option_and_then (used m) res else None

  says_at : (path own whole : Bool) (res : Option Res)
      → Says (step_at path own whole res) (use_at path own whole res) ((path && own) || is_some (use_at path own whole res)) (path && ((not own && whole) && is_none res))
  says_at false own whole res = (refl, refl, refl)
  says_at true true whole res = (refl, refl, refl)
  says_at true false false res = (refl, refl, refl)
  says_at true false true None = refl
  says_at true false true (Some res) = here (is_usable m res)
    where
      here : (b : Bool) → Says (if b then steps.Use res else steps.Enter) (if b then Some res else None) (is_some (if b then Some res else None)) false
      here true = (refl, refl, refl)
      here false = (refl, refl, refl)

  pub says : (scope : ScopeId) (names : List (List ℕ)) (node : Node)
      → Says (step_of m scope names node) (use_of m scope names node) (stops m scope names node) (is_unresolved m scope names node)
  unfolding use_of stops is_unresolved
  says scope names node = says_at (is_path node) (ends_in_self node.children) (is_whole names node.children) (resolution m scope node.children)

-- ** What a step is.

module _ (names : List (List ℕ)) (path : Forest) where
  pub whole_by : (held : Bool) → false ≡ list_any has_generics (qualifying path) → held ≡ holds_stand_in names path → not held ≡ is_whole names path
  whole_by held none is =
      ap not is ∙ ap (λ b. not b && not (holds_stand_in names path)) none

module _ (m : Meanings) (scope : ScopeId) (names : List (List ℕ)) where
  abbrev at_whole : Bool → Option Res → Step
  at_whole whole res = if whole then option_map_or (step_by m) res steps.Refuse else steps.Enter

  pub resolved_step : (path : Forest) (res : Res) (usable : Bool) → true ≡ is_whole names path → Some res ≡ resolution m scope path → usable ≡ is_usable m res
      → (if usable then steps.Use res else steps.Enter) ≡ path_step m scope names path
  resolved_step path res usable is resolves same =
      ap (λ b. if b then steps.Use res else steps.Enter) same
      ∙ ap (at_whole true) resolves ∙ ap (λ b. at_whole b (resolution m scope path)) is

  abbrev at_path : Bool → Bool → Step → Step
  at_path path own step = if path then if own then steps.Pass else step else steps.Enter

  pub steps_at_path : (node : Node) (step : Step) → true ≡ is_path node → false ≡ ends_in_self node.children → step ≡ path_step m scope names node.children
      → step ≡ step_of m scope names node
  steps_at_path node step is other same =
      same ∙ ap (λ b. at_path true b (path_step m scope names node.children)) other
      ∙ ap (λ b. at_path b (ends_in_self node.children) (path_step m scope names node.children)) is
