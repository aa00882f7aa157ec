-- What is found by usages and what the scan finds of the other rules, together.
use Rattle.std.proofs.Common.{◌≡◌, ℕ, ◌+◌, Bool, true, false, All, List, [], ◌∷◌, ◌++◌, length, Option, Some, None, refl, sym, ap, ◌∙◌, subst, inl, inr, ◌⊎◌, arith}
use Rattle.std.proofs.lemmas.List.Elements.{Contains-append_left, Contains-append_right, Contains-append_cases}
use Rattle.std.proofs.lemmas.Option.{slice_get_within, slice_get-map, same_Some}
use Rattle.std.specs.Option.{option_map, option_map_or}
use Rattle.std.specs.Prelude.{slice_get, not, is_some, IfSome, IfOk, Result, Ok, Err, Contains}
use Rattle.ssr_base_trees.specs.Meanings.{Meanings}
use Rattle.ssr_base_trees.specs.Workspace.{Workspace, trees}
use Rattle.ide_ssr_resolved_rule.specs.declared.used_paths.UsedPath.{UsedPath}
use Rattle.ide_ssr_resolved_rule.specs.Resolved.{ResolvedRule}
use Rattle.ide_ssr_bindings.specs.Found.{FoundMatch}
use Rattle.ide_ssr_search.specs.Context.{Context}
use Rattle.ide_ssr_nesting.specs.Kept.{IsShadowed, AreEnough}
use Rattle.ide_ssr_search.specs.Found.{IsFound, IsFoundOf}
use Rattle.ide_ssr_leading.proofs.Adding.{none_in}
use Rattle.ssr_syntax_tree.proofs.Lists.{all_at}
use Rattle.ide_ssr_search.specs.Tries.{IsMostWanted, IsMostOf}
use Rattle.ide_ssr_leading.specs.Leading.{picked_path, IsLedTo}
use Rattle.ide_ssr_leading.specs.Found.{IsLedFound}
use Rattle.ide_ssr_leading.specs.Tries.{IsMostFor, IsMost}
use Rattle.ide_ssr_leading.specs.Private.Finding.{AreLedFoundTo, are_others, usages_in}

module _ (w : Workspace) (m : Meanings) (context : Context) where
  module _ (rules : List ResolvedRule) where
    wanted_is : (place : ℕ) (rule : ResolvedRule) → slice_get rules place ≡ Some rule → slice_get (are_others rules) place ≡ Some (not (is_some (picked_path rule)))
    wanted_is place rule at =
        slice_get-map (λ rule. not (is_some (picked_path rule))) rules place ∙ ap (option_map (λ rule. not (is_some (picked_path rule)))) at

    -- where no rule is wanted nothing is found
    pub none_wanted : (wanted : List Bool) → All (λ flag. flag ≡ false) wanted → AreEnough (trees w) (IsFoundOf w m context rules wanted) []
    none_wanted wanted unset = record {
      found = λ found at. absurd (none_in found at);
      enough = λ found is. let e : true ≡ false = all_at (λ flag. flag ≡ false) wanted found.rule true unset is.1 in absurd (let none : ⊥ = cc in none);
    }

    -- what is found of a rule that no path leads is found by a led search
    not_led : (found : FoundMatch) (is : IsFound w m context rules found) (o : Option UsedPath) → picked_path is.rule ≡ o → not (is_some o) ≡ true → IsLedFound w m context rules found
    not_led found is None picks none = record {
      rule = is.rule;
      is_rule = is.is_rule;
      tried = record { permitted = is.permitted; led = subst (λ o. IfSome o (IsLedTo (trees w) m is.rule found.node)) (sym picks) tt };
      whole = is.whole;
    }
    not_led found is (Some path) picks none = cc

    pub together : (first rest : List FoundMatch) → AreLedFoundTo w m context rules (length rules) first → AreEnough (trees w) (IsFoundOf w m context rules (are_others rules)) rest
        → AreEnough (trees w) (IsLedFound w m context rules) (first ++ rest)
    together first rest by_usages by_scan = record {
      found = λ found had. elim (Contains-append_cases first rest found had) [
        | inl before ↦ ((by_usages found).0 before).is
        | inr behind ↦
            let of = by_scan.found found behind in
            let is : IsFound w m context rules found = of.0 in
            not_led found is (picked_path is.rule) refl
            (same_Some (not (is_some (picked_path is.rule))) true (sym (wanted_is found.rule is.rule is.is_rule) ∙ of.1))
      ];
      enough = λ found is. either found is (picked_path is.rule) refl;
    }
      where
        either : (found : FoundMatch) (is : IsLedFound w m context rules found) (o : Option UsedPath) → picked_path is.rule ≡ o
            → Contains (first ++ rest) found ⊎ IsShadowed (trees w) (first ++ rest) found
        either found is None picks =
            elim (by_scan.enough found (
              record { rule = is.rule; is_rule = is.is_rule; permitted = is.tried.permitted; whole = is.whole },
              wanted_is found.rule is.rule is.is_rule ∙ ap (λ o. Some (not (is_some o))) picks,
            )) [
              | inl had ↦ inl (Contains-append_right first rest found had)
              | inr shadowed ↦ inr (shadowed.0, Contains-append_right first rest shadowed.0 shadowed.1, shadowed.2)
            ]
        either found is (Some path) picks =
            inl
            (Contains-append_left first rest found
            ((by_usages found).1 (record { is = is; led = ap is_some picks; before = slice_get_within rules found.rule is.rule is.is_rule })))

  -- ** How often.

  one_split : (rule : ResolvedRule) (o : Option UsedPath) (own : ℕ) → IsMostFor w m context rule o own
      → (wanted : ℕ) × IsMostWanted w context rule (not (is_some o)) wanted × (own ≡ option_map_or (λ path. length (m.usages path.res)) o 0 + wanted)
  one_split rule None own is = (own, is, omega arith)
  one_split rule (Some path) own is = (0, refl, let same = is in omega arith)

  pub most_split : (rules : List ResolvedRule) (most : ℕ) → IsMost w m context rules most
      → (others : ℕ) × IsMostOf w context rules (are_others rules) others × (most ≡ usages_in m rules + others)
  most_split [] most is = (0, refl, omega (arith, is))
  most_split (rule ∷ rules) most is =
      let one = one_split rule (picked_path rule) is.0 is.2 in
      let rest = most_split rules is.1 is.3 in
      (one.0 + rest.0, (one.0, rest.0, one.1, rest.1, refl), omega (arith, is.4, one.2, rest.2))

-- what holds of what was made says more of it
pub if_ok : {T E : Type 0} (P Q : T → Type 0) → ((x : T) → P x → Q x) → (r : Result T E) → IfOk r P → IfOk r Q
if_ok P Q more (Ok x) p = more x p
if_ok P Q more (Err e) p = p
