use Rattle.std.proofs.Common.{◌≡◌, ◌↔◌, Bool, sym, subst}
use Rattle.std.specs.Prelude.{IsTrue}
use Rattle.std.proofs.lemmas.Slice.Eq.{bytes_eq-Decides}
use Rattle.ide_ssr_debugging.proofs.Showing.{shown_told}
use Rattle.ide_ssr_debugging.proofs.shown.is_shown.Goals as goal

pub returns-in-Some-text : goal.returns-in-Some-text
returns-in-Some-text c =
    let text = c.in-Some-text.text.now in
    let snippet = c.args.snippet.now in
    let told = subst (λ (b : Bool). IsTrue b ↔ (text ≡ snippet)) (sym c.eq.ensures) (bytes_eq-Decides text snippet) in
    shown_told c.args.workspace.now c.args.file snippet c.args.node c.in-Some.range text c.eq.result c.requires.has_byte c.requires.node c.requires.no_root
    c.in-Some.ensures c.if-range-file.false c.in-Some-text.ensures told
