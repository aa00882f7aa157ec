use Rattle.std.proofs.Common.{◌∙◌, ◌||◌, ap, map, sym, subst}
use Rattle.std.proofs.lemmas.List.Elements.{All-tail}
use Rattle.std.specs.List.{All, list_any}
use Rattle.ssr_syntax_tree.specs.Places.{part_of, HasElement}
use Rattle.ssr_syntax_tree.proofs.Shared.{elements_had, parts_of-elements_of}
use Rattle.ssr_syntax_rows.specs.MacroRules.{is_other_word}
use Rattle.ssr_syntax_rows.proofs.macro_rules.has_other_word.Goals as goal

pub loop-child-init : goal.loop-child-init
loop-child-init c =
    let tree = c.args.tree.now in
    let word = c.args.word.now in
    let are = c.into_iter-child-iterator.ensures.into_iter_gives ∙ c.children-child-items.ensures.elements in
    record {
      so_far = ap (λ es. list_any (is_other_word word) (map (part_of tree) es)) are
          ∙ ap (list_any (is_other_word word)) (parts_of-elements_of tree c.args.node.0 c.requires);
      had = subst (All (HasElement tree)) (sym are) (elements_had tree c.args.node.0 c.requires);
    }

pub loop-child-preserved : goal.loop-child-preserved
loop-child-preserved c =
    let tree = c.args.tree.now in
    let word = c.args.word.now in
    let behind = c.next.new.self in
    let steps = c.in-Some.ensures.steps in
    record {
      so_far = ap (λ b. b || list_any (is_other_word word) (map (part_of tree) behind)) (sym (sym c.is_other_word.ensures ∙ c.if-is_other_word.false))
          ∙ ap (λ es. list_any (is_other_word word) (map (part_of tree) es)) (sym steps) ∙ c.loop-child.invariant.so_far;
      had = All-tail (HasElement tree) c.in-Some.child behind (subst (All (HasElement tree)) steps c.loop-child.invariant.had);
    }
