-- What rules are read as has templates.
use Rattle.std.proofs.Common.{◌≡◌, ℕ, List, [], ◌∷◌, Result, Ok, Err, refl, sym, subst}
use Rattle.std.specs.Prelude.{IsSome}
use Rattle.std.proofs.lemmas.List.Elements.{All-nil, All-append}
use Rattle.ssr_syntax_kinds.specs.declared.reach.Reach.{Reach}
use Rattle.ide_ssr_refusals.specs.declared.refusals.Refusal.{Refusal}
use Rattle.ide_ssr_refusals.specs.Refusals.{◌>>=◌}
use Rattle.ide_ssr_resolved_rule.specs.Resolved.{ResolvedRule}
use Rattle.ide_ssr_rules.specs.Rules.{Rule, rule_reading_of, once}
use Rattle.ide_ssr_rules.proofs.Shared.{have_templates, have_templates_once_of}
use Rattle.ide_ssr.specs.Edits.{HaveTemplates}
use Rattle.ssr_base_trees.specs.declared.ids.ScopeId.{ScopeId}
use Rattle.ssr_base_trees.specs.Meanings.{Meanings}
use Rattle.ssr_searching.specs.Searching.{Reading, both, resolved, rule_kinds, rules_reading}
use Rattle.ssr_searching.specs.declared.searching.Kinds.{Kinds}
use Rattle.ssr_searching.specs.declared.searching.Kinds.TheVariants as searched
use Rattle.ssr_searching.specs.Private.Searching.{reading_of}

abbrev Replace : Result (List ResolvedRule) Refusal → Type 0
Replace (Ok kinds) = HaveTemplates kinds
Replace (Err refusal) = Unit {0}

both_replace : (first second : Result (List ResolvedRule) Refusal) → Replace first → Replace second → Replace (both first second)
both_replace (Err refusal) second one other = tt
both_replace (Ok first) (Err refusal) one other = tt
both_replace (Ok first) (Ok second) one other = All-append (λ kind. IsSome kind.template) first second one other

-- what a reading makes of a rule's text has templates once it resolves
abbrev pub HasTemplates : Reading → Type 0
HasTemplates read =
    (meanings : Meanings) (scope : ScopeId) (text : List ℕ) (rule : Rule) (kinds : List ResolvedRule)
    → read text ≡ Ok rule → resolved meanings scope rule ≡ Ok kinds → HaveTemplates kinds

once_has : (reach : Reach) (text : List ℕ) (reading : Result Rule Refusal) → rule_reading_of reach text ≡ reading → (meanings : Meanings) (scope : ScopeId) (rule : Rule) (kinds : List ResolvedRule)
    → (reading >>= λ rule. Ok (once rule)) ≡ Ok rule → resolved meanings scope rule ≡ Ok kinds → HaveTemplates kinds
once_has reach text (Err refusal) is meanings scope rule kinds read resolves = cc
once_has reach text (Ok whole) is meanings scope rule kinds read resolves =
    let same : once whole ≡ rule = cc in
    have_templates_once_of reach meanings scope text whole kinds is (subst (λ rule. resolved meanings scope rule ≡ Ok kinds) (sym same) resolves)

pub each_has : (kinds : Kinds) → HasTemplates (reading_of kinds)
each_has searched.Each meanings scope text rule kinds is resolves = have_templates meanings scope text rule kinds is resolves
each_has (searched.Once reach) meanings scope text rule kinds is resolves = once_has reach text (rule_reading_of reach text) refl meanings scope rule kinds is resolves

module _ (read : Reading) (has : HasTemplates read) (meanings : Meanings) (scope : ScopeId) where
  resolved_replace : (text : List ℕ) (rule : Rule) → read text ≡ Ok rule → (kinds : Result (List ResolvedRule) Refusal)
      → resolved meanings scope rule ≡ kinds → Replace kinds
  resolved_replace text rule is (Err refusal) resolves = tt
  resolved_replace text rule is (Ok kinds) resolves = has meanings scope text rule kinds is resolves

  rule_replaces : (text : List ℕ) (reading : Result Rule Refusal) → read text ≡ reading → Replace (reading >>= resolved meanings scope)
  rule_replaces text (Err refusal) is = tt
  rule_replaces text (Ok rule) is = resolved_replace text rule is (resolved meanings scope rule) refl

  rules_replace : (rules : List (List ℕ)) → Replace (rules_reading read meanings scope rules)
  rules_replace [] = All-nil (λ kind. IsSome kind.template)
  rules_replace (rule ∷ rules) =
      both_replace (rule_kinds read meanings scope rule) (rules_reading read meanings scope rules) (rule_replaces rule (read rule) refl) (rules_replace rules)

  pub all_replace : (rules : List (List ℕ)) (kinds : List ResolvedRule) → rules_reading read meanings scope rules ≡ Ok kinds → HaveTemplates kinds
  all_replace rules kinds is = subst Replace is (rules_replace rules)
