use Rattle.std.proofs.Common.{◌∙◌, ap, [], ◌∷◌, if◌then◌else◌}
use Rattle.ssr_syntax_tree.specs.Places.{part_of}
use Rattle.ssr_syntax_shorts.proofs.SolidChildren.{shaping_starts, shaping_first, shaping_passes, shaping_goes_on}
use Rattle.ssr_syntax_shorts.proofs.shapes.shape_of.Goals as goal

pub loop-child-init : goal.loop-child-init
loop-child-init c =
    shaping_starts c.args.tree.now c.args.node.0 _ c.requires (c.into_iter-child-iterator.ensures.into_iter_gives ∙ c.children-child-items.ensures.elements)

pub is_trivia-requires : goal.is_trivia-requires
is_trivia-requires c = shaping_first _ _ _ _ _ _ c.loop-child.invariant c.in-Some.ensures.steps

pub loop-child-preserved : goal.loop-child-preserved
loop-child-preserved c =
    shaping_passes _ _ _ _ _ c.in-Some.child c.loop-child.invariant c.in-Some.ensures.steps
    (c.is_trivia.ensures ∙ ap (λ b. if b then [] else part_of c.args.tree.now c.in-Some.child ∷ []) c.if-not-is_trivia.false)

pub loop-child-preserved-then-not-is_trivia : goal.loop-child-preserved-then-not-is_trivia
loop-child-preserved-then-not-is_trivia c =
    shaping_goes_on _ _ _ c.in_ok-shape.shape _ _ c.in-Some.child c.loop-child.invariant c.in-Some.ensures.steps
    (c.is_trivia.ensures ∙ ap (λ b. if b then [] else part_of c.args.tree.now c.in-Some.child ∷ []) c.if-not-is_trivia.true) c.in_ok-shape.ensures
