-- What is found for the rules that a path leads, rule by rule.
use Rattle.std.proofs.Common.{◌≡◌, ℕ, ◌+◌, ◌<◌, Bool, Option, false, true, List, [], ◌∷◌, ◌++◌, length, take, get_or, Some, None, refl, sym, ap, ◌∙◌, subst, inl, inr, ◌⊎◌, arith}
use Rattle.std.proofs.lemmas.Bool.{cases_lt}
use Rattle.std.proofs.lemmas.List.{map-append}
use Rattle.std.proofs.lemmas.Option.{none-some, same_Some}
use Rattle.std.specs.Prelude.{slice_get, option_map, if◌then◌else◌, not, Contains, is_some, IfSome}
use Rattle.ssr_syntax_tree.specs.Syntax.{tokens_of}
use Rattle.ssr_syntax_tree.specs.Places.{depth_at}
use Rattle.ssr_base_trees.specs.declared.ids.NodeId.{NodeId}
use Rattle.ssr_base_trees.specs.Meanings.{Meanings}
use Rattle.ssr_base_trees.specs.Workspace.{Workspace, trees}
use Rattle.ide_ssr_resolved_rule.specs.declared.used_paths.UsedPath.{UsedPath}
use Rattle.ide_ssr_resolved_rule.specs.Resolved.{ResolvedRule}
use Rattle.ide_ssr_bindings.specs.Found.{FoundMatch}
use Rattle.ide_ssr_search.specs.Context.{Context}
use Rattle.ide_ssr_search.specs.Permitted.{IsPermitted, names_self}
use Rattle.ide_ssr_search.specs.WholeMatches.{IsWholeMatch}
use Rattle.ide_ssr_leading.specs.Leading.{picked_path, longest_of, IsLedTo}
use Rattle.ide_ssr_leading.specs.Found.{IsLedFound}
use Rattle.ide_ssr_leading.specs.Private.Finding.{IsLedBefore, AreLedFoundTo, are_others, usages_for, usages_in}
use Rattle.ide_ssr_leading.specs.Private.LedRules.{AreFoundBy}
use Rattle.ide_ssr_leading.proofs.Adding.{none_in, next}

module _ (w : Workspace) (m : Meanings) (context : Context) (rules : List ResolvedRule) where
  pub to_none : AreLedFoundTo w m context rules 0 []
  to_none found = (λ had. absurd (none_in found had), λ is. let before = is.before in absurd (omega arith))

  module _ (place : ℕ) (rule : ResolvedRule) (at : slice_get rules place ≡ Some rule) where
    here : (found : FoundMatch) (is : IsLedFound w m context rules found) → found.rule ≡ place → is.rule ≡ rule
    here found is same = same_Some is.rule rule (sym is.is_rule ∙ ap (slice_get rules) same ∙ at)

    further : (found : FoundMatch) → IsLedBefore w m context rules place found → IsLedBefore w m context rules (place + 1) found
    further found is = let before = is.before in record { is = is.is; led = is.led; before = omega arith }

    place_cases : (found : FoundMatch) (is : IsLedBefore w m context rules (place + 1) found) → IsLedBefore w m context rules place found ⊎ (found.rule ≡ place)
    place_cases found is =
        let before = is.before in
        elim (cases_lt found.rule place) [
          | inl low ↦ inl (record { is = is.is; led = is.led; before = low })
          | inr high ↦ inr (omega arith)
        ]

    -- a rule that no path leads
    pub to_other : (ms : List FoundMatch) → picked_path rule ≡ None → AreLedFoundTo w m context rules place ms → AreLedFoundTo w m context rules (place + 1) ms
    to_other ms none so_far found = (
      λ had. further found ((so_far found).0 had),
      λ is. elim (place_cases found is) [
        | inl before ↦ (so_far found).1 before
        | inr same ↦
            absurd (
            let e : false ≡ true = sym (ap is_some (ap picked_path (here found is.is same) ∙ none)) ∙ is.led in
            cc)
      ],
    )

    -- a rule that a path leads
    pub to_led : (path : UsedPath) (usages : List NodeId) (old new : List FoundMatch) → picked_path rule ≡ Some path → usages ≡ m.usages path.res
        → AreFoundBy w m context rule place (depth_at rule.pattern path.node.0) usages old new
        → AreLedFoundTo w m context rules place old → AreLedFoundTo w m context rules (place + 1) new
    to_led path usages old new picks told added so_far found =
        let x = found.node in (
          λ had. elim ((added found).0 had) [
            | inl before ↦ further found ((so_far found).0 before)
            | inr new ↦
                let of = new.1 in
                let led : IsLedTo (trees w) m rule x path = (new.0.0, subst (λ us. Contains us new.0.0) told new.0.1, new.0.2) in
                let now = of.of_rule in
                record {
                  is = record {
                    rule = rule;
                    is_rule = ap (slice_get rules) of.of_rule ∙ at;
                    tried = record {
                      permitted = of.permitted;
                      led = subst (λ o. IfSome o (IsLedTo (trees w) m rule x)) (sym picks) led;
                    };
                    whole = of.whole;
                  };
                  led = ap is_some picks;
                  before = omega arith;
                }
          ],
          λ is. elim (place_cases found is) [
            | inl before ↦ (added found).1 (inl ((so_far found).1 before))
            | inr same ↦
                let known : IsLedFound w m context rules found = is.is in
                let own = here found known same in
                let led : IsLedTo (trees w) m rule x path =
                subst (λ o. IfSome o (IsLedTo (trees w) m rule x)) picks
                (subst (λ r. IfSome (picked_path r) (IsLedTo (trees w) m r x)) own known.tried.led) in
                (added found).1
                (inr (
                  (led.0, subst (λ us. Contains us led.0) (sym told) led.1, led.2),
                  record {
                    of_rule = same;
                    permitted = subst (λ r. IsPermitted w context r x) own known.tried.permitted;
                    whole = subst (λ r. IsWholeMatch (trees w) m r x found.bindings) own known.whole;
                  },
                ))
          ],
        )

-- ** One rule more.

usages_push : (m : Meanings) (rules : List ResolvedRule) (rule : ResolvedRule) → usages_in m (rules ++ rule ∷ []) ≡ usages_in m rules + usages_for m rule
usages_push m [] rule = omega arith
usages_push m (first ∷ rules) rule = omega (arith, usages_push m rules rule)

module _ (rules : List ResolvedRule) (place : ℕ) (rule : ResolvedRule) (within : place < length rules) (is : get_or rules place rule ≡ rule) where
  pub usages_more : (m : Meanings) → usages_in m (take (place + 1) rules) ≡ usages_in m (take place rules) + usages_for m rule
  usages_more m = ap (usages_in m) (next rules place rule within is) ∙ usages_push m (take place rules) rule

  pub others_more : are_others (take (place + 1) rules) ≡ are_others (take place rules) ++ not (is_some (picked_path rule)) ∷ []
  others_more =
      ap are_others (next rules place rule within is)
      ∙ map-append (λ rule. not (is_some (picked_path rule))) (take place rules) (rule ∷ [])

-- ** What leads a rule.

pub unmapped : {A B : Type 0} (f : A → B) (o : Option A) → None ≡ option_map f o → o ≡ None
unmapped f None is = refl
unmapped f (Some x) is = absurd (none-some (f x) is)

-- no path leads the search for a rule that has `self` as a value
pub led_names : (rule : ResolvedRule) (path : UsedPath) → picked_path rule ≡ Some path → names_self (tokens_of rule.pattern) ≡ false
unfolding picked_path
led_names rule path is = by (names_self (tokens_of rule.pattern)) refl is
  where
    by : (b : Bool) → names_self (tokens_of rule.pattern) ≡ b → (if b then None else longest_of rule.pattern None rule.eligible_paths) ≡ Some path
        → names_self (tokens_of rule.pattern) ≡ false
    by true names picks = absurd (none-some path picks)
    by false names picks = names
