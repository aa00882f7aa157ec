use Rattle.std.proofs.Common.{◌≡◌, true, ap, sym, ◌∙◌}
use Rattle.ssr_syntax_kinds.specs.Kinds.{same_kind}
use Rattle.ssr_syntax_kinds.specs.declared.kinds.SyntaxKind.TheVariants as k
use Rattle.ssr_syntax_shorts.proofs.Below.{kind_at}
use Rattle.ssr_syntax_shorts.proofs.Enough.{path_enough}
use Rattle.ssr_syntax_shorts.proofs.operands.path.Goals as goal

pub returns-then-is_path : goal.returns-then-is_path
returns-then-is_path c =
    let s = c.args.walk.now.tree.now in
    let names = c.args.walk.now.names.now in
    let node = c.args.spot.node in
    let kind : same_kind (kind_at s node) k.PATH_EXPR ≡ true = ap (λ w. same_kind w k.PATH_EXPR) (sym c.kind.ensures) ∙ sym c.is.ensures.same ∙ c.if-is.true in
    let path_kind : same_kind (kind_at s c.args.path) k.PATH ≡ true =
    ap (λ w. same_kind w k.PATH) (sym c.kind-then-is.ensures) ∙ sym c.is-then-is.ensures.same ∙ c.if-is-2.true in
    path_enough s names node c.args.spot.callable c.args.spot.most c.requires.has c.args.path c.requires.shape kind path_kind (c.is_path.ensures c.if-is_path.true)
