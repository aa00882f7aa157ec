use Rattle.std.proofs.Common.{◌∙◌, ◌++◌, ap, map, option_to_list, sym}
use Rattle.ssr_syntax_tree.specs.Places.{HasElement, part_of}
use Rattle.ide_ssr_matching.specs.Children.{bare}
use Rattle.ide_ssr_matching.specs.Private.Children.{siblings_left}
use Rattle.ide_ssr_matching.proofs.Bare.{comma-answer, first-answer, first-solid, kept-then, none-answer, tail_has}
use Rattle.ide_ssr_matching.proofs.children.Siblings.next_bare.Goals as goal

pub returns-in_err-first-clause-gives : goal.returns-in_err-first-clause-gives
returns-in_err-first-clause-gives c =
    none-answer _ _ _ c.in_err-first.ensures.gives c.in_err-first.ensures.none
    ∙ ap (λ came. map (part_of c.args.tree.now) (option_to_list came) ++ bare (map (part_of c.args.tree.now) (siblings_left c.next_solid.new.self))) (sym c.from_residual.ensures)

pub returns-then-not-is_comma-clause-gives : goal.returns-then-not-is_comma-clause-gives
returns-then-not-is_comma-clause-gives c = first-answer _ c.in_ok-first.first _ _ c.in_ok-first.ensures.gives (sym c.if-not-is_comma.ensures)

pub behind_comma-requires-clause-has : goal.behind_comma-requires-clause-has
behind_comma-requires-clause-has c = tail_has (HasElement c.args.tree.now) _ _ (c.in_ok-first.ensures.kept.has c.args.tree.now c.requires)

pub behind_comma-requires-clause-no_trivia : goal.behind_comma-requires-clause-no_trivia
behind_comma-requires-clause-no_trivia c = first-solid _ c.in_ok-first.first _ _ c.in_ok-first.ensures.gives

pub returns-clause-gives : goal.returns-clause-gives
returns-clause-gives c =
    comma-answer _ c.in_ok-first.first c.behind_comma.result _ (siblings_left c.next_solid.new.self) (siblings_left c.behind_comma.new.self) c.in_ok-first.ensures.gives c.behind_comma.ensures.gives

pub returns-clause-kept : goal.returns-clause-kept
returns-clause-kept c = kept-then _ _ _ c.in_ok-first.ensures.kept c.behind_comma.ensures.kept
