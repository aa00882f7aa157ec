-- Rules that are read one after the other.
use Rattle.std.proofs.Common.{◌≡◌, ℕ, ◌+◌, ◌<◌, List, [], ◌∷◌, ◌++◌, Result, Ok, Err, length, take, drop, get_or, refl, ap, sym, ◌∙◌, append_assoc, append-nil}
use Rattle.std.proofs.lemmas.List.{drop_more, take-append-drop, take_more}
use Rattle.ssr_base_trees.specs.declared.ids.ScopeId.{ScopeId}
use Rattle.ssr_base_trees.specs.Meanings.{Meanings}
use Rattle.ssr_searching.specs.Searching.{Reading, both, rule_kinds, rules_reading}
use Rattle.ide_ssr_refusals.specs.declared.refusals.Refusal.{Refusal}
use Rattle.ide_ssr_resolved_rule.specs.Resolved.{ResolvedRule}

abbrev Read : Type 0
Read = Result (List ResolvedRule) Refusal

both-assoc : (a b c : Read) → both a (both b c) ≡ both (both a b) c
both-assoc (Err e) b c = refl
both-assoc (Ok a) (Err e) c = refl
both-assoc (Ok a) (Ok b) (Err e) = refl
both-assoc (Ok a) (Ok b) (Ok c) = ap Ok (sym (append_assoc a b c))

both-nil : (a : Read) → both a (Ok []) ≡ a
both-nil (Err e) = refl
both-nil (Ok a) = ap Ok (append-nil a)

nil-both : (a : Read) → both (Ok []) a ≡ a
nil-both (Err e) = refl
nil-both (Ok a) = refl

module _ (read : Reading) (meanings : Meanings) (scope : ScopeId) where
  abbrev kinds_of : List ℕ → Read
  kinds_of = rule_kinds read meanings scope

  abbrev reading : List (List ℕ) → Read
  reading = rules_reading read meanings scope

  reading-append : (xs ys : List (List ℕ)) → reading (xs ++ ys) ≡ both (reading xs) (reading ys)
  reading-append [] ys = sym (nil-both (reading ys))
  reading-append (x ∷ xs) ys = ap (both (kinds_of x)) (reading-append xs ys) ∙ both-assoc (kinds_of x) (reading xs) (reading ys)

  module _ (rules : List (List ℕ)) (i : ℕ) (less : i < length rules) (kinds : List ResolvedRule) (before : reading (take i rules) ≡ Ok kinds) where
    -- one rule more
    pub read_more : (more : List ResolvedRule) → kinds_of (get_or rules i []) ≡ Ok more → reading (take (i + 1) rules) ≡ Ok (kinds ++ more)
    read_more more is =
        ap reading (take_more rules i [] less)
        ∙ reading-append (take i rules) (get_or rules i [] ∷ [])
        ∙ ap (λ r. both r (both (kinds_of (get_or rules i [])) (Ok []))) before
        ∙ ap (λ r. both (Ok kinds) r) (both-nil (kinds_of (get_or rules i [])) ∙ is)

    -- the first refusal is that of all rules
    pub read_refused : (refusal : Refusal) → kinds_of (get_or rules i []) ≡ Err refusal → reading rules ≡ Err refusal
    read_refused refusal is =
        ap reading (sym (take-append-drop i rules))
        ∙ reading-append (take i rules) (drop i rules)
        ∙ ap (λ r. both r (reading (drop i rules))) before
        ∙ ap (λ rs. both (Ok kinds) (reading rs)) (drop_more rules i [] less)
        ∙ ap (λ r. both (Ok kinds) (both r (reading (drop (i + 1) rules)))) is
