use Rattle.std.proofs.Common.{◌≡◌, ◌∙◌, List, Option, ℕ, Some, ap, map, sym, subst, ◌∷◌}
use Rattle.std.proofs.lemmas.List.Elements.{All-tail}
use Rattle.std.specs.List.{All}
use Rattle.ssr_syntax_tree.specs.declared.number.Element.{Element}
use Rattle.ssr_syntax_tree.specs.Syntax.{Syntax}
use Rattle.ssr_syntax_tree.specs.Places.{part_of, HasElement}
use Rattle.ssr_syntax_tree.proofs.Shared.{elements_had, parts_of-elements_of}
use Rattle.ide_ssr_search.specs.Private.Words.{counts, first_text}
use Rattle.ide_ssr_search.proofs.AskedWords.{text_of_node, text_there, text_other}
use Rattle.ide_ssr_search.proofs.words.first_text.Goals as goal

-- what is left says the same behind a child that is passed over
stepped : (tree : Syntax) (child : Element) (left behind : List Element) (told whole : Option (List ℕ)) → left ≡ child ∷ behind
    → told ≡ first_text (part_of tree child ∷ map (part_of tree) behind) → first_text (map (part_of tree) left) ≡ whole → told ≡ whole
stepped tree child left behind told whole steps here so_far = here ∙ ap (λ es. first_text (map (part_of tree) es)) (sym steps) ∙ so_far

pub loop-child-init : goal.loop-child-init
loop-child-init c =
    let tree = c.args.tree.now in
    let are = c.into_iter-child-iterator.ensures.into_iter_gives ∙ c.children-child-items.ensures.elements in
    record {
      so_far = ap (λ es. first_text (map (part_of tree) es)) are ∙ ap first_text (parts_of-elements_of tree c.args.node.0 c.requires);
      had = subst (All (HasElement tree)) (sym are) (elements_had tree c.args.node.0 c.requires);
    }

pub loop-child-preserved : goal.loop-child-preserved
loop-child-preserved c =
    let tree = c.args.tree.now in
    let behind = c.next.new.self in
    let steps = c.in-Some.ensures.steps in
    record {
      so_far = stepped tree c.in-Some.child c.loop-child.child-iterator behind _ _ steps
          (text_of_node tree c.in-Some.child (map (part_of tree) behind) c.in_default.field-0 c.in_default.is) c.loop-child.invariant.so_far;
      had = All-tail (HasElement tree) c.in-Some.child behind (subst (All (HasElement tree)) steps c.loop-child.invariant.had);
    }

pub loop-child-preserved-else-counts : goal.loop-child-preserved-else-counts
loop-child-preserved-else-counts c =
    let tree = c.args.tree.now in
    let behind = c.next.new.self in
    let steps = c.in-Some.ensures.steps in
    record {
      so_far = stepped tree c.in-Some.child c.loop-child.child-iterator behind _ _ steps
          (text_other tree c.in-Some.child (map (part_of tree) behind) c.in-Token.token c.in-Token.is
          (ap counts (sym c.token_kind.ensures) ∙ sym c.counts.ensures ∙ c.if-counts.false))
          c.loop-child.invariant.so_far;
      had = All-tail (HasElement tree) c.in-Some.child behind (subst (All (HasElement tree)) steps c.loop-child.invariant.had);
    }

pub returns-then-counts : goal.returns-then-counts
returns-then-counts c =
    let tree = c.args.tree.now in
    let behind = c.next.new.self in
    ap (λ (text : List ℕ). Some text) c.token_text.ensures
    ∙ stepped tree c.in-Some.child c.loop-child.child-iterator behind _ _ c.in-Some.ensures.steps
    (text_there tree c.in-Some.child (map (part_of tree) behind) c.in-Token.token c.in-Token.is
    (ap counts (sym c.token_kind.ensures) ∙ sym c.counts.ensures ∙ c.if-counts.true))
    c.loop-child.invariant.so_far
