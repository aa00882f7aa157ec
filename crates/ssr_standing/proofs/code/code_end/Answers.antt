use Rattle.std.proofs.Common.{◌≡◌, ◌∙◌, ◌<◌, ◌≤◌, ◌^◌, ap, length, subst, sym}
use Rattle.std.specs.Prelude.{IsCharBoundary, None}
use Rattle.std.proofs.lemmas.Str.{IsCharBoundary-end, IsCharBoundary-start}
use Rattle.ssr_syntax_lex.specs.Tokens.{HasNoTokens, tokens}
use Rattle.ssr_syntax_lex.specs.declared.tokens.LexError.{LexError}
use Rattle.ssr_standing.specs.Code.{end_of_last}
use Rattle.ssr_standing.proofs.CodeEnds.{code_of_fault, code_of_long, code_of_tokens, ends_between}
use Rattle.ssr_standing.proofs.code.code_end.Goals as goal

pub returns-in-Ok-clause-end : goal.returns-in-Ok-clause-end
returns-in-Ok-clause-end c =
    c.end_of_last.ensures ∙ ap (end_of_last 0) c.deref.ensures.value
    ∙ code_of_tokens c.args.text.now c.in-Ok.tokens.items c.in-Ok.ensures.value.0 c.in-Ok.ensures.value.1

pub returns-in-Ok-clause-boundary : goal.returns-in-Ok-clause-boundary
returns-in-Ok-clause-boundary c =
    let text = c.args.text.now in
    subst (IsCharBoundary text) (sym (c.end_of_last.ensures ∙ ap (end_of_last 0) c.deref.ensures.value))
    (ends_between text 0 0 c.in-Ok.tokens.items c.in-Ok.ensures.tiles (IsCharBoundary-start text c.utf8.text))

pub returns-in-Err-Fault : goal.returns-in-Err-Fault
returns-in-Err-Fault c =
    let text = c.args.text.now in
    let told : (length text < 2 ^ 32) × (tokens text ≡ None) =
    subst (λ (e : LexError). HasNoTokens e text) c.in-Err-Fault.field-0-is c.in-Err-Fault.ensures.value in
    record { end = code_of_fault text told.0 told.1; boundary = IsCharBoundary-end text }

pub returns-in-Err-TooLong : goal.returns-in-Err-TooLong
returns-in-Err-TooLong c =
    let text = c.args.text.now in
    let long : 2 ^ 32 ≤ length text = subst (λ (e : LexError). HasNoTokens e text) c.in-Err-TooLong.field-0-is c.in-Err-TooLong.ensures.value in
    record { end = code_of_long text long; boundary = IsCharBoundary-end text }
