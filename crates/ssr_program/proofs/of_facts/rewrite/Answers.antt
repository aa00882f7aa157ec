use Rattle.std.proofs.Common.{List, String, Global, map, string_bytes, ap, ◌∙◌}
use Rattle.std.proofs.lemmas.Result.{err_from_is_err_and}
use Rattle.ide_ssr_rewriting.specs.Clashes.{clash_of}
use Rattle.ssr_program.specs.OfFacts.{clash_words, parts}
use Rattle.ssr_searching.specs.Searching.{changes_in}
use Rattle.ssr_program.proofs.OfFacts.{facts_error, message_told, clash_told, files_written}
use Rattle.ssr_program.proofs.of_facts.rewrite.Goals as goal

pub returns-in_err-workspace : goal.returns-in_err-workspace
returns-in_err-workspace c =
    let p = err_from_is_err_and c.from_residual.result c.from_residual.ensures.1 in
    rw (p.1, p.2) (facts_error Global _ _ c.in_err-workspace.field-0.0 c.in_err-workspace.ensures)

pub returns-in-Ok : goal.returns-in-Ok
returns-in-Ok c =
    let told = c.in_ok-workspace.field-0 in
    files_written _ _ told c.in_ok-workspace.ensures _ _ c.in-Ok.ensures.answer
    (c.in_ok-parts-in-Ok.ensures
    ∙ ap (λ (names : List (String Global)). parts (map string_bytes names) told.workspace.files (changes_in c.in-Ok.edits)) c.deref.ensures.value)

pub returns-in-Err-Refused : goal.returns-in-Err-Refused
returns-in-Err-Refused c =
    message_told _ _ _ c.in_ok-workspace.ensures _ (rw c.in-Err-Refused.field-0-is at c.in-Err-Refused.ensures).answer

pub returns-in-Err-Clash : goal.returns-in-Err-Clash
returns-in-Err-Clash c =
    clash_told _ _ _ c.in_ok-workspace.ensures _ _ (rw c.in-Err-Clash.field-0-is at c.in-Err-Clash.ensures).answer
    (c.in_ok-clash_words-in-Err-Clash.ensures
    ∙ ap (λ (names : List (String Global)). clash_words (map string_bytes names) (clash_of (c.in-Err-Clash.earlier, c.in-Err-Clash.later))) c.deref-in-Err-Clash.ensures.value)

-- there is no memory for what is written
pub returns-in_err-parts-in-Ok : goal.returns-in_err-parts-in-Ok
returns-in_err-parts-in-Ok c =
    let p = err_from_is_err_and c.from_residual-in_err-parts-in-Ok.result c.from_residual-in_err-parts-in-Ok.ensures.1 in
    rw (p.1, p.2) (_, c.in_ok-workspace.ensures)

pub returns-in_err-clash_words-in-Err-Clash : goal.returns-in_err-clash_words-in-Err-Clash
returns-in_err-clash_words-in-Err-Clash c =
    let p = err_from_is_err_and c.from_residual-in_err-clash_words-in-Err-Clash.result c.from_residual-in_err-clash_words-in-Err-Clash.ensures.1 in
    rw (p.1, p.2) (_, c.in_ok-workspace.ensures)
