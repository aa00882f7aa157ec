use Rattle.std.proofs.Common.{arith, ap, map, []}
use Rattle.std.specs.Option.{option_copied}
use Rattle.ssr_syntax_tree.specs.Places.{HasElement, part_of}
use Rattle.ide_ssr_token_trees.specs.Private.Siblings.{parts_left}
use Rattle.ide_ssr_token_trees.proofs.Rests.{rest_all, rest_next, rest_passed, rest_same, rest_then}
use Rattle.ide_ssr_token_trees.proofs.Runs.{run_some, left_behind, run_within}
use Rattle.ide_ssr_token_trees.proofs.siblings.Siblings.take_run.Goals as goal

pub count_up_to-requires-clause-has : goal.count_up_to-requires-clause-has
count_up_to-requires-clause-has c =
    rest_all (HasElement c.args.tree.now) _ _ []
    (rest_passed _ _ c.in_ok-first.first
    (rest_next _ _ c.advance.new.self c.in_ok-first.first (rest_same c.args.self.now) c.in_ok-first.ensures.gives c.in_ok-first.ensures.comma))
    c.requires.has

pub overflow_add-count : goal.overflow_add-count
overflow_add-count c =
    let within = run_within c.args.tree.now (option_copied c.args.text) c.args.self.now c.advance.new.self c.in_ok-first.first _ _ c.in_ok-first.ensures.gives
    c.tokens_of-tokens.ensures.count c.count_up_to.ensures.count
    in
    let few = c.requires.few in
    omega (arith, within)

pub returns-then-count-eq0-clause-rest : goal.returns-then-count-eq0-clause-rest
returns-then-count-eq0-clause-rest c =
    rest_then _ _ _ []
    (rest_passed _ _ c.in_ok-first.first
    (rest_next _ _ c.advance.new.self c.in_ok-first.first (rest_same c.args.self.now) c.in_ok-first.ensures.gives c.in_ok-first.ensures.comma))
    c.count_up_to.ensures.rest

pub returns-clause-run : goal.returns-clause-run
returns-clause-run c =
    run_some (option_copied c.args.text) (part_of c.args.tree.now c.in_ok-first.first) (parts_left c.args.tree.now c.advance.new.self) _ _ _ _
    (ap (map (part_of c.args.tree.now)) c.in_ok-first.ensures.gives) c.tokens_of-tokens.ensures.first c.tokens_of-tokens.ensures.count
    c.count_up_to.ensures.count c.if-count-eq0.false

pub returns-clause-gives : goal.returns-clause-gives
returns-clause-gives c =
    left_behind (option_copied c.args.text) (part_of c.args.tree.now c.in_ok-first.first) (parts_left c.args.tree.now c.advance.new.self) _ _
    (ap (map (part_of c.args.tree.now)) c.in_ok-first.ensures.gives) c.count_up_to.ensures.gives

pub returns-clause-rest : goal.returns-clause-rest
returns-clause-rest c =
    rest_then _ _ _ []
    (rest_passed _ _ c.in_ok-first.first
    (rest_next _ _ c.advance.new.self c.in_ok-first.first (rest_same c.args.self.now) c.in_ok-first.ensures.gives c.in_ok-first.ensures.comma))
    c.count_up_to.ensures.rest
