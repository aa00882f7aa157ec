use Rattle.std.proofs.Common.{◌∙◌, ◌||◌, ap, map, sym, subst}
use Rattle.std.proofs.lemmas.List.Elements.{All-tail}
use Rattle.std.specs.List.{All, list_any}
use Rattle.ssr_syntax_tree.specs.Places.{part_of, HasElement}
use Rattle.ssr_syntax_tree.proofs.Shared.{elements_had, parts_of-elements_of}
use Rattle.ide_ssr_resolved_rule.specs.Names.{has}
use Rattle.ide_ssr_rules.specs.MacroCalls.{is_spelled}
use Rattle.ide_ssr_rules.specs.Private.MacroCalls.{in_part}
use Rattle.ide_ssr_resolved_rule.specs.StandIns.{stand_in_of}
use Rattle.ide_ssr_rules.proofs.CalledNames.{also_next}
use Rattle.ide_ssr_rules.proofs.macro_calls.with_node.Goals as goal

pub loop-part-init : goal.loop-part-init
loop-part-init c =
    let tree = c.args.tree.now in
    let are = c.into_iter-part-iterator.ensures.into_iter_gives ∙ c.children-part-items.ensures.elements in
    record {
      so_far = λ name. ap (λ es. has c.args.names name || list_any (is_spelled (stand_in_of name)) (map (part_of tree) es)) are
          ∙ ap (λ ps. has c.args.names name || list_any (is_spelled (stand_in_of name)) ps) (parts_of-elements_of tree c.args.node.0 c.requires);
      had = subst (All (HasElement tree)) (sym are) (elements_had tree c.args.node.0 c.requires);
    }

pub loop-part-preserved : goal.loop-part-preserved
loop-part-preserved c =
    let tree = c.args.tree.now in
    let behind = c.next.new.self in
    let steps = c.in-Some.ensures.steps in
    record {
      so_far = λ name. also_next c.loop-part.names c.in_ok-names.names (in_part (part_of tree c.in-Some.part)) name
          (list_any (is_spelled (stand_in_of name)) (map (part_of tree) behind)) c.in_ok-names.ensures
          ∙ ap (λ es. has c.loop-part.names name || list_any (is_spelled (stand_in_of name)) (map (part_of tree) es)) (sym steps) ∙ c.loop-part.invariant.so_far name;
      had = All-tail (HasElement tree) c.in-Some.part behind (subst (All (HasElement tree)) steps c.loop-part.invariant.had);
    }
