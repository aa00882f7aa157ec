use Rattle.std.proofs.Common.{ap, sym, ◌∙◌, subst}
use Rattle.std.specs.Prelude.{string_bytes}
use Rattle.std.specs.Str.{trim, IsUtf8}
use Rattle.std.proofs.lemmas.Str.{IsUtf8-string_bytes}
use Rattle.ssr_syntax_rows.specs.Solid.{pieces}
use Rattle.ide_ssr_refusals.specs.declared.refusals.Refusal.TheVariants as r
use Rattle.ide_ssr_rules.specs.Elements.{lexed}
use Rattle.ide_ssr_refusals.specs.Refusals.{unless}
use Rattle.ide_ssr_rules.specs.StandIns.{glued_placeholder}
use Rattle.ide_ssr_rules.proofs.LexedSides.{lexed-tokens}
use Rattle.ide_ssr_rules.proofs.StandIns.{glued_lexed}
use Rattle.ide_ssr_refusals.proofs.Shared.{tells_refusal}
use Rattle.ide_ssr_rules.proofs.rules.side_text.Goals as goal

pub returns-in-Err : goal.returns-in-Err
returns-in-Err c = record { refused = c.unlexed.ensures (string_bytes c.in_ok-code_of.field-0) c.in_ok-code_of.ensures c.in-Err.ensures; text = tt }

pub returns-in-Some-clause-refused : goal.returns-in-Some-clause-refused
returns-in-Some-clause-refused c =
    let es = c.args.elements.now in
    let text = c.in-Ok.text in
    let told = c.in-Ok.ensures in
    let raw = told.2.0 in
    let lexes = ap (λ t. lexed (trim t)) told.0 ∙ lexed-tokens (trim (string_bytes c.in_ok-code_of.field-0)) raw told.1 told.2.1 in
    let ts = pieces (trim (string_bytes c.in_ok-code_of.field-0)) raw in
    let glued = c.in-Some.ensures ts lexes ∙ glued_lexed es text ts (told.0 ∙ c.in_ok-code_of.ensures) lexes in
    tells_refusal (unless r.Glued (glued_placeholder es)) c.told.result (r.Glued c.in-Some.name.now) (ap (unless r.Glued) (sym glued))
    c.told.ensures

pub returns-in-None-clause-refused : goal.returns-in-None-clause-refused
returns-in-None-clause-refused c =
    let es = c.args.elements.now in
    let text = c.in-Ok.text in
    let told = c.in-Ok.ensures in
    let raw = told.2.0 in
    let lexes = ap (λ t. lexed (trim t)) told.0 ∙ lexed-tokens (trim (string_bytes c.in_ok-code_of.field-0)) raw told.1 told.2.1 in
    let ts = pieces (trim (string_bytes c.in_ok-code_of.field-0)) raw in
    ap (unless r.Glued) (sym (c.in-None.ensures ts lexes ∙ glued_lexed es text ts (told.0 ∙ c.in_ok-code_of.ensures) lexes))

pub returns-in-None-clause-text : goal.returns-in-None-clause-text
returns-in-None-clause-text c =
    let told = c.in-Ok.ensures in
    (told.0 ∙ c.in_ok-code_of.ensures, subst IsUtf8 (sym told.0) (IsUtf8-string_bytes c.in_ok-code_of.field-0))
