use Rattle.std.proofs.Common.{sym, ◌∙◌}
use Rattle.ide_ssr_rules.proofs.ReadingConstraints.{placeholder_end, opens_braces, plain_read, other_read}
use Rattle.ide_ssr_refusals.proofs.Shared.{tells_refusal}
use Rattle.ide_ssr_rules.proofs.constraints.read_placeholder.Goals as goal

pub returns-in_default : goal.returns-in_default
returns-in_default c = tells_refusal _ _ _ (placeholder_end _ c.in_default.ensures) c.told.ensures

pub returns-then-opens : goal.returns-then-opens
returns-then-opens c = rw (opens_braces _ _ _ c.in-Some.ensures (sym c.opens.ensures ∙ c.if-opens.true)) c.braced.ensures

pub returns-then-not-is_ident : goal.returns-then-not-is_ident
returns-then-not-is_ident c =
    tells_refusal _ _ _ (other_read _ _ _ c.in-Some.ensures (sym c.opens.ensures ∙ c.if-opens.false) (sym c.is_ident.ensures ∙ c.if-not-is_ident.true))
    c.told-then-not-is_ident.ensures

pub returns : goal.returns
returns c =
    plain_read _ _ _ c.in-Some.ensures _ _ c.text.ensures c.new-constraints.ensures.items (sym c.opens.ensures ∙ c.if-opens.false)
    (sym c.is_ident.ensures ∙ c.if-not-is_ident.false)
