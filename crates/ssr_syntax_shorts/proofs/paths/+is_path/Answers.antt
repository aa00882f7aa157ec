use Rattle.std.proofs.Common.{◌≡◌, ◌<◌, [], ◌∷◌, subst, arith}
use Rattle.ssr_syntax_tree.specs.Places.{node_of, size_of}
use Rattle.ssr_syntax_tree.specs.declared.number.Element.TheVariants as element
use Rattle.ssr_syntax_shorts.specs.declared.shapes.Shape.TheVariants as shape
use Rattle.ssr_syntax_shorts.specs.Private.Shapes.{elements_in, AreSolid}
use Rattle.ssr_syntax_shorts.proofs.Below.{first_below}
use Rattle.ssr_syntax_shorts.proofs.PathNames.{path_one, path_longer}
use Rattle.ssr_syntax_shorts.proofs.paths.+is_path.Goals as goal

pub is_path-requires : goal.is_path-requires
is_path-requires t c =
    let s = c.args.walk.now.tree.now in
    let w = c.in-Some-Three-Node-Token-Node in
    let same : w.field-0 ≡ shape.Three (element.Node w.path) (element.Token w.colons) (element.Node w.name) = cc in
    let solid = subst (λ x. AreSolid s c.args.node.0 (elements_in x)) same w.ensures in
    let below = first_below s c.args.node.0 w.path (element.Token w.colons ∷ element.Node w.name ∷ []) c.requires solid in
    let fewer : size_of (node_of s w.path.0) < size_of (node_of s c.args.node.0) = below.fewer in
    (omega arith, below.has)

pub returns-in-Some-One-Node : goal.returns-in-Some-One-Node
returns-in-Some-One-Node t c is =
    let s = c.args.walk.now.tree.now in
    let w = c.in-Some-One-Node in
    let same : w.field-0 ≡ shape.One (element.Node w.name) = cc in
    let solid = subst (λ x. AreSolid s c.args.node.0 (elements_in x)) same w.ensures in
    path_one s c.args.walk.now.names.now c.args.node c.requires w.name solid (c.is_segment.ensures is)

pub returns-then-goes_on : goal.returns-then-goes_on
returns-then-goes_on t c is =
    let s = c.args.walk.now.tree.now in
    let w = c.in-Some-Three-Node-Token-Node in
    let same : w.field-0 ≡ shape.Three (element.Node w.path) (element.Token w.colons) (element.Node w.name) = cc in
    let solid = subst (λ x. AreSolid s c.args.node.0 (elements_in x)) same w.ensures in
    path_longer s c.args.walk.now.names.now c.args.node c.requires w.path w.colons w.name solid
    (c.goes_on.ensures.path c.if-goes_on.true) (c.goes_on.ensures.colons c.if-goes_on.true) (c.goes_on.ensures.name c.if-goes_on.true)
    (c.is_path.ensures is)
