use Rattle.std.proofs.lemmas.Result.{err_from_is_err_and}
use Rattle.std.proofs.Common.{◌≡◌, ℕ, List, [], Option, Some, None, Ok, refl, ap, subst, ◌∙◌}
use Rattle.std.specs.Prelude.{unwrap_or}
use Rattle.std.specs.Borrow.{Bor}
use Rattle.std.specs.Option.{IfSome, option_and, option_copied, option_map}
use Rattle.std.specs.Str.{IsUtf8}
use Rattle.ssr_syntax_kinds.specs.declared.reach.Reach.{Reach}
use Rattle.ide_ssr_rules.specs.declared.elements.Element.{Element}
use Rattle.ide_ssr_rules.specs.Kinds.{kinds_of}
use Rattle.ide_ssr_rules.specs.Private.Texts.{IsTextOf}
use Rattle.ide_ssr_rules.specs.Rules.{check_sides, written}
use Rattle.ide_ssr_rules.specs.StandIns.{code_of}
use Rattle.ide_ssr_rules.proofs.Walking.{names_few}
use Rattle.ide_ssr_rules.proofs.Chains.{sides_refused, kinds_refused, uses_refused, rule_made}
use Rattle.ide_ssr_rules.proofs.KindUses.{are_read, kinds_once}
use Rattle.ide_ssr_rules.proofs.rules.rule_of.Goals as goal
use Rattle.ide_ssr_rules.proofs.rules.rule_of.Goals.{In_ok-texts, After-and}

written_is : (template : Option (Bor (List Element))) (nothing : Bor (List Element)) → nothing.now ≡ []
    → (unwrap_or template nothing).now ≡ written (option_copied template)
written_is None nothing empty = empty
written_is (Some side) nothing empty = refl

-- the template's text, where there is a template
text_beside : (template : Option (Bor (List Element))) (text : Bor (List ℕ)) → IsTextOf (written (option_copied template)) text.now
    → option_copied (option_and template (Some text)) ≡ option_map code_of (option_copied template)
text_beside None text is = refl
text_beside (Some side) text is = ap (λ t. Some t) is.0

template_utf8 : (template : Option (List Element)) (text : List ℕ) → IsTextOf (written template) text → IfSome template (λ side. IsUtf8 (code_of side))
template_utf8 None text is = tt
template_utf8 (Some side) text is = subst IsUtf8 is.0 is.1

-- the kinds are those of both texts
kinds_are : (reach : Reach) (pattern : List Element) (template : Option (Bor (List Element))) (text : List ℕ) (given : Bor (List ℕ)) (beside : Option (Bor (List ℕ)))
    → IsTextOf pattern text → IsTextOf (written (option_copied template)) given.now → beside ≡ option_and template (Some given)
    → kinds_of reach text (option_copied beside) ≡ kinds_of reach (code_of pattern) (option_map code_of (option_copied template))
kinds_are reach pattern template text given beside is too same =
    ap (λ t. kinds_of reach t (option_copied beside)) is.0
    ∙ ap (kinds_of reach (code_of pattern)) (ap (λ o. option_copied o) same ∙ text_beside template given too)

pub returns-in_err-texts : goal.returns-in_err-texts
returns-in_err-texts c =
    let p = err_from_is_err_and c.from_residual.result c.from_residual.ensures.1 in
    let refused = rw (ap (λ r. r.now) c.unwrap_or-written.ensures ∙ written_is c.args.template _ refl) at c.in_err-texts.ensures.refused in
    rw (p.1, p.2) (sides_refused c.args.reach _ (option_copied c.args.template) _ refused)

-- the texts are those of both sides
record Texts (c : In_ok-texts) : Type 0 where
  checked : check_sides c.args.pattern.now (written (option_copied c.args.template)) ≡ Ok tt
  pattern : IsTextOf c.args.pattern.now c.in_ok-texts.texts.pattern
  template : IsTextOf (written (option_copied c.args.template)) c.in_ok-texts.texts.template

texts_are : (c : In_ok-texts) → Texts c
texts_are c =
    let is = ap (λ r. r.now) c.unwrap_or-written.ensures ∙ written_is c.args.template _ refl in record {
      checked = rw is at c.in_ok-texts.ensures.refused;
      pattern = c.in_ok-texts.ensures.pattern;
      template = rw is at c.in_ok-texts.ensures.template;
    }

-- and the kinds those of both texts
kinds_here : (c : After-and) → kinds_of c.args.reach c.in_ok-texts.texts.pattern (option_copied c.and.result)
    ≡ kinds_of c.args.reach (code_of c.args.pattern.now) (option_map code_of (option_copied c.args.template))
kinds_here c =
    let texts = texts_are (goal.at.After-and c).In_ok-texts in
    kinds_are c.args.reach c.args.pattern.now c.args.template c.in_ok-texts.texts.pattern _ c.and.result texts.pattern texts.template c.and.ensures

pub returns-in_err-kinds : goal.returns-in_err-kinds
returns-in_err-kinds c =
    let p = err_from_is_err_and c.from_residual-in_err-kinds.result c.from_residual-in_err-kinds.ensures.1 in
    let texts = texts_are (goal.at.returns-in_err-kinds c).In_ok-texts in
    rw (p.1, p.2) (kinds_refused c.args.reach _ (option_copied c.args.template) _ texts.checked (rw (kinds_here (goal.at.returns-in_err-kinds c).After-and) at c.in_err-kinds.ensures))

pub returns-in_err-check_uses : goal.returns-in_err-check_uses
returns-in_err-check_uses c =
    let p = err_from_is_err_and c.from_residual-in_err-check_uses.result c.from_residual-in_err-check_uses.ensures.1 in
    let is = ap (λ r. r.now) c.unwrap_or-written.ensures ∙ written_is c.args.template _ refl in
    let texts = texts_are (goal.at.returns-in_err-check_uses c).In_ok-texts in
    let read = rw (kinds_here (goal.at.returns-in_err-check_uses c).After-and) at c.in_ok-kinds.ensures in
    let refused = rw is at c.in_err-check_uses.ensures in
    rw (p.1, p.2) (uses_refused c.args.reach _ (option_copied c.args.template) _ _ _ texts.checked read c.as_slice.ensures.value refused)

pub returns : goal.returns
returns c =
    let is = ap (λ r. r.now) c.unwrap_or-written.ensures ∙ written_is c.args.template _ refl in
    let texts = texts_are (goal.at.returns c).In_ok-texts in
    let read = rw (kinds_here (goal.at.returns c).After-and) at c.in_ok-kinds.ensures in
    let uses = rw is at c.in_ok-check_uses.ensures in
    rule_made c.args.reach _ (option_copied c.args.template) _ _ _ _ _ texts.checked read c.as_slice.ensures.value uses refl c.in_ok-names.ensures.names
    c.in_ok-names.ensures.constraints

pub invariant_of-result : goal.invariant_of-result
invariant_of-result c =
    let texts = texts_are (goal.at.invariant_of-result c).In_ok-texts in
    let read = rw (kinds_here (goal.at.invariant_of-result c).After-and) at c.in_ok-kinds.ensures in
    let kept = c.in_ok-names.ensures.names in record {
      few = names_few c.args.pattern.now _ _ c.requires.few kept refl;
      once =
          kinds_once c.args.reach c.args.pattern.now (option_copied c.args.template) _ _
          (record { utf8 = subst IsUtf8 texts.pattern.0 texts.pattern.1; new = c.requires.pattern_new })
          (are_read (option_copied c.args.template) (template_utf8 (option_copied c.args.template) _ texts.template) c.requires.template_new)
          texts.checked read kept;
    }
