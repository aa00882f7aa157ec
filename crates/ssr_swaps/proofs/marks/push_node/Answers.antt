use Rattle.std.proofs.Common.{◌≡◌, ◌∙◌, ◌++◌, [], ◌∷◌, List, ap, append_assoc, map, subst, sym}
use Rattle.std.specs.Prelude.{All, flat_map}
use Rattle.std.proofs.lemmas.List.{append-nil, map-append}
use Rattle.std.proofs.lemmas.List.Elements.{All-tail}
use Rattle.ssr_syntax_kinds.specs.declared.kinds.SyntaxKind.{SyntaxKind}
use Rattle.ssr_syntax_tree.specs.declared.number.Element.{Element}
use Rattle.ssr_syntax_tree.specs.Places.{HasElement, Part, elements_of, node_of, part_of, parts_of}
use Rattle.ssr_syntax_tree.proofs.Shared.{elements_had, parts_of-elements_of}
use Rattle.ssr_swaps.specs.declared.marks.Mark.TheVariants as stored
use Rattle.ssr_swaps.specs.Private.Marks.{PlainMark, node_mark, part_marks, shown}
use Rattle.ssr_swaps.proofs.NodeMarks.{child_more}
use Rattle.ssr_swaps.proofs.marks.push_node.Goals as goal

pub loop-child-init : goal.loop-child-init
loop-child-init c =
    let tree = c.args.tree.now in
    let front : List PlainMark = map shown c.push.new.self.items in
    let are : c.into_iter-child-iterator.result ≡ elements_of (node_of tree c.args.node.0) =
    c.into_iter-child-iterator.ensures.into_iter_gives ∙ c.children-child-items.ensures.elements in
    record {
      so_far = ap (λ (es : List Element). front ++ flat_map part_marks (map (part_of tree) es)) are
          ∙ ap (λ (ps : List Part). front ++ flat_map part_marks ps) (parts_of-elements_of tree c.args.node.0 c.requires);
      left = subst (All (HasElement tree)) (sym are) (elements_had tree c.args.node.0 c.requires);
    }

pub loop-child-preserved : goal.loop-child-preserved
loop-child-preserved c =
    let tree = c.args.tree.now in
    record {
      so_far = child_more tree c.in-Some.child c.loop-child.child-iterator c.next.new.self (map shown c.loop-child.marks.items) (map shown c.push_child.new.marks.items) _
          c.in-Some.ensures.steps c.in_ok-push_child.ensures c.loop-child.invariant.so_far;
      left = All-tail (HasElement tree) c.in-Some.child c.next.new.self (subst (All (HasElement tree)) c.in-Some.ensures.steps c.loop-child.invariant.left);
    }

pub returns : goal.returns
returns c =
    let tree = c.args.tree.now in
    let front : List PlainMark = map shown c.loop-child.marks.items in
    let children : List PlainMark = flat_map part_marks (parts_of (node_of tree c.args.node.0)) in
    sym (append-nil front)
    ∙ ap (λ (es : List Element). front ++ flat_map part_marks (map (part_of tree) es)) (sym c.in-None.ensures.steps.0)
    ∙ c.loop-child.invariant.so_far
    ∙ ap (λ (marks : List PlainMark). marks ++ children)
    (ap (map shown) c.in_ok-push.ensures.items ∙ map-append shown c.args.marks.now.items (stored.Node c.kind-kind.result ∷ [])
    ∙ ap (λ (kind : SyntaxKind). map shown c.args.marks.now.items ++ node_mark kind ∷ []) c.kind-kind.ensures)
    ∙ append_assoc (map shown c.args.marks.now.items) (node_mark (node_of tree c.args.node.0).kind ∷ []) children
