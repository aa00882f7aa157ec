use Rattle.std.proofs.Common.{arith, sym}
use Rattle.ssr_syntax_tree.specs.Places.{node_of}
use Rattle.ide_ssr_resolving.proofs.Children.{before_fewer}
use Rattle.ide_ssr_resolving.proofs.Tokens.{around_arguments}
use Rattle.ide_ssr_resolving.proofs.StandIns.{whole_holds, front_holds, behind_holds}
use Rattle.ide_ssr_resolving.proofs.stand_ins.holds_stand_in.Goals as goal

pub returns-in_default : goal.returns-in_default
returns-in_default c =
    whole_holds c.args.names.now c.args.tree.now c.args.path.0 _ _ _ c.requires c.tokens_below-tokens.ensures.start c.tokens_below-tokens.ensures.end
    c.in_default.ensures.node c.has_stand_in.ensures

pub has_stand_in-requires-2 : goal.has_stand_in-requires-2
has_stand_in-requires-2 c =
    let on = around_arguments c.args.tree.now c.args.path.0 (node_of c.args.tree.now c.in-Some.last.0) c.requires (sym c.in-Some.ensures.node) in
    let low = on.low in
    let high = on.high in
    let start = c.tokens_below-tokens.ensures.start in
    let end = c.tokens_below-tokens.ensures.end in
    let within = c.tokens_below-tokens.ensures.has in
    let past = c.name_end.ensures in
    let fewer = before_fewer (node_of c.args.tree.now c.in-Some.last.0).children in
    (omega arith, omega arith)

pub has_stand_in-requires-else-has_stand_in : goal.has_stand_in-requires-else-has_stand_in
has_stand_in-requires-else-has_stand_in c =
    let on = around_arguments c.args.tree.now c.args.path.0 (node_of c.args.tree.now c.in-Some.last.0) c.requires (sym c.in-Some.ensures.node) in
    let high = on.high in
    let end = c.tokens_below-tokens.ensures.end in
    let within = c.tokens_below-tokens.ensures.has in
    let own = c.tokens_below.ensures.end in
    (omega arith, omega arith)

pub returns-then-has_stand_in : goal.returns-then-has_stand_in
returns-then-has_stand_in c =
    front_holds c.args.names.now c.args.tree.now c.args.path.0 (node_of c.args.tree.now c.in-Some.last.0) _ _ _ c.requires (sym c.in-Some.ensures.node)
    c.tokens_below-tokens.ensures.start c.name_end.ensures c.has_stand_in-2.ensures c.if-has_stand_in.true

pub returns-else-has_stand_in : goal.returns-else-has_stand_in
returns-else-has_stand_in c =
    behind_holds c.args.names.now c.args.tree.now c.args.path.0 (node_of c.args.tree.now c.in-Some.last.0) _ _ _ _ _ _ c.requires (sym c.in-Some.ensures.node)
    c.tokens_below-tokens.ensures.start c.name_end.ensures c.tokens_below.ensures.end c.tokens_below-tokens.ensures.end
    c.has_stand_in-2.ensures c.if-has_stand_in.false c.has_stand_in-else-has_stand_in.ensures
