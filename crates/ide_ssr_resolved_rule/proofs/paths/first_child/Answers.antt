use Rattle.std.proofs.Common.{◌≡◌, List, ◌∷◌, [], Option, Some, None, ◌∙◌, ap, map, rules, sym, subst}
use Rattle.std.proofs.lemmas.List.Elements.{All-tail}
use Rattle.std.specs.List.{All}
use Rattle.ssr_syntax_kinds.specs.declared.kinds.SyntaxKind.{SyntaxKind}
use Rattle.ssr_syntax_tree.specs.declared.number.Element.{Element}
use Rattle.ssr_syntax_tree.specs.Syntax.{Syntax}
use Rattle.ssr_syntax_tree.specs.Places.{Node, node_of, part_of, parts_of, HasElement}
use Rattle.ssr_syntax_tree.proofs.Shared.{elements_had, parts_of-elements_of}
use Rattle.ide_ssr_resolved_rule.specs.Paths.{first_of_kind}
use Rattle.ide_ssr_resolved_rule.proofs.Children.{among_rest, among_some, below_told}
use Rattle.ide_ssr_resolved_rule.proofs.paths.first_child.Goals as goal

pub loop-child-init : goal.loop-child-init
loop-child-init c =
    let tree = c.args.tree.now in
    let kind = c.args.kind in
    let are = c.into_iter-child-iterator.ensures.into_iter_gives ∙ c.children-child-items.ensures.elements in
    record {
      so_far = ap (λ es. first_of_kind kind (map (part_of tree) es)) are
          ∙ ap (first_of_kind kind) (parts_of-elements_of tree c.args.node.0 c.requires);
      had = subst (All (HasElement tree)) (sym are) (elements_had tree c.args.node.0 c.requires);
    }

pub loop-child-preserved : goal.loop-child-preserved
loop-child-preserved c =
    let tree = c.args.tree.now in
    let kind = c.args.kind in
    let behind = c.next.new.self in
    let steps = c.in-Some.ensures.steps in
    record {
      so_far = sym (among_rest kind (part_of tree c.in-Some.child) (map (part_of tree) behind) c.in_default.ensures.node)
          ∙ ap (λ es. first_of_kind kind (map (part_of tree) es)) (sym steps) ∙ c.loop-child.invariant.so_far;
      had = All-tail (HasElement tree) c.in-Some.child behind (subst (All (HasElement tree)) steps c.loop-child.invariant.had);
    }

found : (s : Syntax) (kind : SyntaxKind) (whole : Option Node) (node : Node) (child : Element) (behind left : List Element)
    → Some node ≡ first_of_kind kind (part_of s child ∷ []) → left ≡ child ∷ behind → first_of_kind kind (map (part_of s) left) ≡ whole → Some node ≡ whole
found s kind whole node child behind left there steps so_far =
    among_some kind (part_of s child) (map (part_of s) behind) node there ∙ ap (λ es. first_of_kind kind (map (part_of s) es)) (sym steps) ∙ so_far

pub returns-in-Some-node_of_kind-clause-node : goal.returns-in-Some-node_of_kind-clause-node
returns-in-Some-node_of_kind-clause-node c =
    found c.args.tree.now c.args.kind _ _ c.in-Some.child c.next.new.self _ c.in-Some-node_of_kind.ensures.node c.in-Some.ensures.steps c.loop-child.invariant.so_far

pub returns-in-Some-node_of_kind-clause-below : goal.returns-in-Some-node_of_kind-clause-below
returns-in-Some-node_of_kind-clause-below c =
    below_told c.args.tree.now c.args.kind (node_of c.args.tree.now c.args.node.0) (Some c.in-Some-node_of_kind.found)
    (found c.args.tree.now c.args.kind _ _ c.in-Some.child c.next.new.self _ c.in-Some-node_of_kind.ensures.node c.in-Some.ensures.steps c.loop-child.invariant.so_far)

pub returns-clause-below : goal.returns-clause-below
returns-clause-below c =
    let none : ◌≡◌ {A = Option Node} None (first_of_kind c.args.kind (parts_of (node_of c.args.tree.now c.args.node.0))) = search rules steps 200000 in
    below_told c.args.tree.now c.args.kind (node_of c.args.tree.now c.args.node.0) None none
