use Rattle.std.proofs.Common.{◌≡◌, Global, map, string_bytes, ap}
use Rattle.std.proofs.lemmas.Str.{IsUtf8-string_bytes}
use Rattle.std.proofs.lemmas.Result.{err_from_is_err_and}
use Rattle.ide_ssr_rewriting.specs.Clashes.{clash_of}
use Rattle.ssr_program.specs.OfFile.{no_text}
use Rattle.ssr_searching.specs.Searching.{ComesTo, clashes, changes, changes_in}
use Rattle.ssr_program.proofs.OfFile.{is_file, file_error, message_told, never_clashes, new_text_is, of_one}
use Rattle.ssr_program.proofs.of_file.rewrite.Goals as goal

pub returns-in_default : goal.returns-in_default
returns-in_default c = no_text (λ is. absurd (cc (c.in_default.ensures.succeeds is)))

pub returns-in_err-workspace : goal.returns-in_err-workspace
returns-in_err-workspace c =
    let p = err_from_is_err_and c.from_residual.result c.from_residual.ensures.1 in
    let same : string_bytes c.in-Ok.text ≡ c.args.bytes.items = ap (λ v. v.items) c.in-Ok.ensures.ok in
    rw (p.1, p.2) (file_error _ _ same (IsUtf8-string_bytes c.in-Ok.text) Global _ c.in_err-workspace.field-0.0 c.in_err-workspace.ensures)

pub returns-in-Ok-edits : goal.returns-in-Ok-edits
returns-in-Ok-edits c =
    let same : string_bytes c.in-Ok.text ≡ c.args.bytes.items = ap (λ v. v.items) c.in-Ok.ensures.ok in
    let read = c.in_ok-workspace.ensures in
    new_text_is _ _ read.0 _ _ _ (is_file _ _ same (IsUtf8-string_bytes c.in-Ok.text) read.0 read.1) read.2
    (of_one read.0 _ _ (λ s. ComesTo s (map string_bytes c.args.rules.now) (changes (changes_in c.in-Ok-edits.edits))) read.2 c.new.ensures.items c.in-Ok-edits.ensures.answer)
    c.in_ok-new_text-in-Ok-edits.ensures

pub returns-in-Err-Refused : goal.returns-in-Err-Refused
returns-in-Err-Refused c =
    let same : string_bytes c.in-Ok.text ≡ c.args.bytes.items = ap (λ v. v.items) c.in-Ok.ensures.ok in
    let read = c.in_ok-workspace.ensures in
    rw c.in-Err-Refused.field-0-is
    (message_told _ _ read.0 _ _ _ (is_file _ _ same (IsUtf8-string_bytes c.in-Ok.text) read.0 read.1) read.2 c.new.ensures.items
    (rw c.in-Err-Refused.field-0-is at c.in-Err-Refused.ensures).answer)

pub returns-in-Err-Memory : goal.returns-in-Err-Memory
returns-in-Err-Memory c =
    let same : string_bytes c.in-Ok.text ≡ c.args.bytes.items = ap (λ v. v.items) c.in-Ok.ensures.ok in
    let read = c.in_ok-workspace.ensures in
    (read.0, is_file _ _ same (IsUtf8-string_bytes c.in-Ok.text) read.0 read.1)

pub unreachable-requires : goal.unreachable-requires
unreachable-requires c =
    let read = c.in_ok-workspace.ensures in
    never_clashes read.0 _ _
    (of_one read.0 _ _ (λ s. ComesTo s (map string_bytes c.args.rules.now) (clashes (clash_of (c.in-Err-Clash.field-0-0, c.in-Err-Clash.field-0-1)))) read.2 c.new.ensures.items (rw c.in-Err-Clash.field-0-is at c.in-Err-Clash.ensures).answer)

pub new_text-requires-clause-one : goal.new_text-requires-clause-one
new_text-requires-clause-one c = (c.in_ok-workspace.ensures.0, c.in_ok-workspace.ensures.2)

pub new_text-requires-clause-fits : goal.new_text-requires-clause-fits
new_text-requires-clause-fits c = c.in-Ok-edits.ensures.fits

-- there is no memory for the new text
pub returns-in_err-new_text-in-Ok-edits : goal.returns-in_err-new_text-in-Ok-edits
returns-in_err-new_text-in-Ok-edits c =
    let p = err_from_is_err_and c.from_residual-in_err-new_text-in-Ok-edits.result c.from_residual-in_err-new_text-in-Ok-edits.ensures.1 in
    let same : string_bytes c.in-Ok.text ≡ c.args.bytes.items = ap (λ v. v.items) c.in-Ok.ensures.ok in
    let read = c.in_ok-workspace.ensures in
    rw (p.1, p.2) (read.0, is_file _ _ same (IsUtf8-string_bytes c.in-Ok.text) read.0 read.1)
