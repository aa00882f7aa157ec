use Rattle.std.proofs.Common.{◌≡◌, true, ap, subst, sym, ◌∙◌}
use Rattle.ssr_syntax_kinds.specs.Kinds.{same_kind}
use Rattle.ssr_syntax_kinds.specs.declared.kinds.SyntaxKind.TheVariants as k
use Rattle.ssr_syntax_tree.specs.declared.number.Element.TheVariants as element
use Rattle.ssr_syntax_shorts.specs.declared.shapes.Shape.TheVariants as shape
use Rattle.ssr_syntax_shorts.specs.Private.Shapes.{elements_in, AreSolid}
use Rattle.ssr_syntax_shorts.proofs.Below.{kind_at}
use Rattle.ssr_syntax_shorts.proofs.PathNames.{segment_by}
use Rattle.ssr_syntax_shorts.proofs.paths.is_segment.Goals as goal

pub returns-then-is : goal.returns-then-is
returns-then-is c is =
    let s = c.args.walk.now.tree.now in
    let w = c.in-Some-One-Node in
    let same : w.field-0 ≡ shape.One (element.Node w.name) = cc in
    let solid = subst (λ x. AreSolid s c.args.node.0 (elements_in x)) same w.ensures in
    let kind : same_kind (kind_at s c.args.node) k.PATH_SEGMENT ≡ true =
    ap (λ x. same_kind x k.PATH_SEGMENT) (sym c.kind.ensures) ∙ sym c.is.ensures.same ∙ c.if-is.true in
    segment_by s c.args.walk.now.names.now c.args.node c.requires w.name solid kind (c.is_name_ref.ensures is)
