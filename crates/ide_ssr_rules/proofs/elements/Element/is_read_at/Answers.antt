use Rattle.std.proofs.Common.{◌∙◌, ap, sym}
use Rattle.std.specs.List.{slice_get}
use Rattle.std.specs.Str.{trim}
use Rattle.ide_ssr_rules.proofs.LexedSides.{lexed_known}
use Rattle.ide_ssr_rules.proofs.StandIns.{is_read}
use Rattle.ide_ssr_rules.proofs.elements.Element.is_read_at.Goals as goal

pub returns-in-Some : goal.returns-in-Some
returns-in-Some c tokens lexes =
    let known = lexed_known (trim c.args.text.now) tokens lexes in
    c.is_read_as.ensures
    ∙ ap (λ token. is_read c.args.self.now token) (c.in-Some.ensures known.raw known.are ∙ ap (λ ts. slice_get ts c.args.number) (sym known.seen))

pub returns-in-None : goal.returns-in-None
returns-in-None c tokens lexes =
    let known = lexed_known (trim c.args.text.now) tokens lexes in
    ap (λ token. is_read c.args.self.now token) (c.in-None.ensures known.raw known.are ∙ ap (λ ts. slice_get ts c.args.number) (sym known.seen))
