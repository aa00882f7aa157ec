use Rattle.std.proofs.Common.{◌∙◌, ap, map, sym, subst}
use Rattle.std.proofs.lemmas.List.Elements.{All-tail}
use Rattle.std.specs.List.{All}
use Rattle.ssr_syntax_tree.specs.Places.{part_of, node_of, elements_of, HasElement}
use Rattle.ssr_syntax_tree.proofs.Shared.{elements_had, parts_of-elements_of}
use Rattle.ide_ssr_matching.specs.TokenTrees.{has_token_placeholder}
use Rattle.ide_ssr_matching.proofs.OwnTokens.{token_here, token_behind}
use Rattle.ide_ssr_matching.proofs.token_trees.has_token_placeholder.Goals as goal

pub loop-child-init : goal.loop-child-init
loop-child-init c =
    let rule = c.args.rule.now in
    let pattern = rule.pattern in
    let are = c.into_iter-child-iterator.ensures.into_iter_gives ∙ c.children-child-items.ensures.elements
    ∙ ap (λ s. elements_of (node_of s c.args.p.0)) c.pattern.ensures in
    record {
      so_far = ap (λ es. has_token_placeholder rule (map (part_of pattern) es)) are
          ∙ ap (has_token_placeholder rule) (parts_of-elements_of pattern c.args.p.0 c.requires);
      had = subst (All (HasElement pattern)) (sym are) (elements_had pattern c.args.p.0 c.requires);
    }

pub loop-child-preserved : goal.loop-child-preserved
loop-child-preserved c =
    let rule = c.args.rule.now in
    let pattern = rule.pattern in
    let behind = c.next.new.self in
    let steps = c.in-Some.ensures.steps in
    record {
      so_far = sym (token_behind rule (part_of pattern c.in-Some.child) (map (part_of pattern) behind) (sym c.is_token_placeholder.ensures ∙ c.if-is_token_placeholder.false))
          ∙ ap (λ es. has_token_placeholder rule (map (part_of pattern) es)) (sym steps) ∙ c.loop-child.invariant.so_far;
      had = All-tail (HasElement pattern) c.in-Some.child behind (subst (All (HasElement pattern)) steps c.loop-child.invariant.had);
    }

pub returns-then-is_token_placeholder : goal.returns-then-is_token_placeholder
returns-then-is_token_placeholder c =
    let rule = c.args.rule.now in
    let pattern = rule.pattern in
    sym (token_here rule (part_of pattern c.in-Some.child) (map (part_of pattern) c.next.new.self) (sym c.is_token_placeholder.ensures ∙ c.if-is_token_placeholder.true))
    ∙ ap (λ es. has_token_placeholder rule (map (part_of pattern) es)) (sym c.in-Some.ensures.steps) ∙ c.loop-child.invariant.so_far
