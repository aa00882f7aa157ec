use Rattle.std.proofs.Common.{◌≡◌, ◌∙◌, Bool, List, Option, true, false, ap, map, sym, subst, ◌∷◌}
use Rattle.std.proofs.lemmas.List.Elements.{All-tail}
use Rattle.std.specs.List.{All}
use Rattle.ssr_syntax_tree.specs.declared.number.Element.{Element}
use Rattle.ssr_syntax_tree.specs.Syntax.{Syntax}
use Rattle.ssr_syntax_tree.specs.Places.{Node, part_of, HasElement}
use Rattle.ssr_syntax_tree.proofs.Shared.{elements_had, parts_of-elements_of}
use Rattle.ide_ssr_search.specs.Private.Words.{counts, node_behind}
use Rattle.ide_ssr_search.proofs.AskedWords.{behind_node, behind_counted, behind_other}
use Rattle.ide_ssr_search.proofs.words.node_behind.Goals as goal

-- what is left says the same behind a child that is passed over
stepped : (tree : Syntax) (child : Element) (left behind : List Element) (counted next : Bool) (whole : Option Node) → left ≡ child ∷ behind
    → node_behind next (map (part_of tree) behind) ≡ node_behind counted (part_of tree child ∷ map (part_of tree) behind)
    → node_behind counted (map (part_of tree) left) ≡ whole → node_behind next (map (part_of tree) behind) ≡ whole
stepped tree child left behind counted next whole steps here so_far = here ∙ ap (λ es. node_behind counted (map (part_of tree) es)) (sym steps) ∙ so_far

pub loop-child-init : goal.loop-child-init
loop-child-init c =
    let tree = c.args.tree.now in
    let are = c.into_iter-child-iterator.ensures.into_iter_gives ∙ c.children-child-items.ensures.elements in
    record {
      so_far = ap (λ es. node_behind false (map (part_of tree) es)) are
          ∙ ap (node_behind false) (parts_of-elements_of tree c.args.node.0 c.requires);
      had = subst (All (HasElement tree)) (sym are) (elements_had tree c.args.node.0 c.requires);
    }

pub loop-child-preserved-else-counted : goal.loop-child-preserved-else-counted
loop-child-preserved-else-counted c =
    let tree = c.args.tree.now in
    let behind = c.next.new.self in
    let steps = c.in-Some.ensures.steps in
    record {
      so_far = stepped tree c.in-Some.child c.loop-child.child-iterator behind c.loop-child.counted c.loop-child.counted _ steps
          (behind_node tree c.in-Some.child (map (part_of tree) behind) c.loop-child.counted c.in-Node.below c.in-Node.is c.if-counted.false)
          c.loop-child.invariant.so_far;
      had = All-tail (HasElement tree) c.in-Some.child behind (subst (All (HasElement tree)) steps c.loop-child.invariant.had);
    }

pub loop-child-preserved-then-counts : goal.loop-child-preserved-then-counts
loop-child-preserved-then-counts c =
    let tree = c.args.tree.now in
    let behind = c.next.new.self in
    let steps = c.in-Some.ensures.steps in
    record {
      so_far = stepped tree c.in-Some.child c.loop-child.child-iterator behind c.loop-child.counted true _ steps
          (behind_counted tree c.in-Some.child (map (part_of tree) behind) c.loop-child.counted c.in-Token.token c.in-Token.is
          (ap counts (sym c.token_kind.ensures) ∙ sym c.counts.ensures ∙ c.if-counts.true))
          c.loop-child.invariant.so_far;
      had = All-tail (HasElement tree) c.in-Some.child behind (subst (All (HasElement tree)) steps c.loop-child.invariant.had);
    }

pub loop-child-preserved : goal.loop-child-preserved
loop-child-preserved c =
    let tree = c.args.tree.now in
    let behind = c.next.new.self in
    let steps = c.in-Some.ensures.steps in
    record {
      so_far = stepped tree c.in-Some.child c.loop-child.child-iterator behind c.loop-child.counted c.loop-child.counted _ steps
          (behind_other tree c.in-Some.child (map (part_of tree) behind) c.loop-child.counted c.in-Token.token c.in-Token.is
          (ap counts (sym c.token_kind.ensures) ∙ sym c.counts.ensures ∙ c.if-counts.false))
          c.loop-child.invariant.so_far;
      had = All-tail (HasElement tree) c.in-Some.child behind (subst (All (HasElement tree)) steps c.loop-child.invariant.had);
    }
