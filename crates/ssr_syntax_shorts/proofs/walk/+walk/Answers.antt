use Rattle.std.proofs.Common.{◌≡◌, true, ◌*◌, ◌<◌, [], ◌∷◌, ap, if◌then◌else◌, subst, sym, ◌∙◌, arith}
use Rattle.ssr_syntax_kinds.specs.Kinds.{same_kind}
use Rattle.ssr_syntax_kinds.specs.declared.kinds.SyntaxKind.TheVariants as k
use Rattle.ssr_syntax_tree.specs.Places.{node_of, part_of, size_of}
use Rattle.ssr_syntax_tree.specs.declared.number.NodeNo.{NodeNo}
use Rattle.ssr_syntax_shorts.specs.declared.arguments.Turn.TheVariants as turns
use Rattle.ssr_syntax_shorts.specs.declared.operands.Need.TheVariants as need
use Rattle.ssr_syntax_shorts.specs.Private.Arguments.{IsTurn}
use Rattle.ssr_syntax_shorts.specs.Private.Operands.{MeetsAlways}
use Rattle.ssr_syntax_shorts.proofs.Listing.{IsListing, element_size, element_smaller, is_argument, listing_child, listing_ends, listing_goes_on, listing_passes, listing_starts}
use Rattle.ssr_syntax_shorts.proofs.walk.+walk.Goals as goal

pub are_arguments-loop-child-init : goal.are_arguments-loop-child-init
are_arguments-loop-child-init t c =
    listing_starts c.args.walk.now.tree.now c.args.walk.now.names.now c.args.list.0 c.requires c.into_iter-child-iterator.result
    (c.into_iter-child-iterator.ensures.into_iter_gives ∙ c.children-child-items.ensures.elements)

pub are_arguments-next_turn-requires : goal.are_arguments-next_turn-requires
are_arguments-next_turn-requires t c =
    let s = c.args.walk.now.tree.now in
    let known =
    listing_child s c.args.walk.now.names.now c.args.list.0 c.requires c.loop-child.turn c.loop-child.child-iterator c.next.new.self c.in-Some.child
    c.loop-child.invariant c.in-Some.ensures.steps in
    let less : element_size s c.in-Some.child < 3 * size_of (node_of s c.args.list.0) =
    element_smaller s c.args.list.0 c.in-Some.child c.requires known.0 known.1 in
    (omega arith, known.0)

pub are_arguments-loop-child-preserved : goal.are_arguments-loop-child-preserved
are_arguments-loop-child-preserved t c =
    listing_passes c.args.walk.now.tree.now c.args.walk.now.names.now c.args.list.0 c.requires c.loop-child.turn c.loop-child.child-iterator
    c.next.new.self c.in-Some.child c.loop-child.invariant c.in-Some.ensures.steps
    (c.is_trivia.ensures ∙ ap (λ b. if b then [] else part_of c.args.walk.now.tree.now c.in-Some.child ∷ []) c.if-not-is_trivia.false)

pub are_arguments-loop-child-preserved-then-not-is_trivia : goal.are_arguments-loop-child-preserved-then-not-is_trivia
are_arguments-loop-child-preserved-then-not-is_trivia t c =
    listing_goes_on c.args.walk.now.tree.now c.args.walk.now.names.now c.args.list.0 c.requires c.loop-child.turn c.in-Some-next_turn.next
    c.loop-child.child-iterator c.next.new.self c.in-Some.child c.loop-child.invariant c.in-Some.ensures.steps
    (c.is_trivia.ensures ∙ ap (λ b. if b then [] else part_of c.args.walk.now.tree.now c.in-Some.child ∷ []) c.if-not-is_trivia.true)
    c.in-Some-next_turn.ensures

pub are_arguments-returns-in-Closed : goal.are_arguments-returns-in-Closed
are_arguments-returns-in-Closed t c is =
    let s = c.args.walk.now.tree.now in
    let kind : same_kind (node_of s c.args.list.0).kind k.ARG_LIST ≡ true =
    ap (λ w. same_kind w k.ARG_LIST) (sym c.kind.ensures) ∙ sym c.is.ensures.same ∙ c.if-not-is.false in
    listing_ends s c.args.walk.now.names.now c.args.list.0 c.requires c.loop-child.child-iterator
    (subst (λ w. IsListing s c.args.walk.now.names.now c.args.list.0 w c.loop-child.child-iterator) c.in-Closed.is c.loop-child.invariant)
    c.in-None.ensures.steps.0 kind

pub next_turn-returns-then-meets : goal.next_turn-returns-then-meets
next_turn-returns-then-meets t c =
    let s = c.args.walk.now.tree.now in
    let names = c.args.walk.now.names.now in
    let met : MeetsAlways s names need.Inside c.in-Node.argument.0 =
    subst (λ (m : NodeNo). MeetsAlways s names need.Inside m.0) c.inside.ensures.node
    (subst (λ w. MeetsAlways s names w c.inside.result.node.0) c.inside.ensures.need (c.meets.ensures c.if-meets.true)) in
    subst (λ w. IsTurn s names w c.args.child turns.Behind) (sym c.in-Argument.is)
    (subst (λ e. IsTurn s names turns.Argument e turns.Behind) (sym c.in-Node.is) (is_argument s names c.in-Node.argument met))
