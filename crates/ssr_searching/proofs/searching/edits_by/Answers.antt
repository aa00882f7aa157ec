use Rattle.std.proofs.lemmas.Result.{err_from_is_err_and}
use Rattle.ssr_searching.specs.Searching.{clash, edited}
use Rattle.ssr_searching.specs.Private.Searching.{reading_of}
use Rattle.ssr_searching.proofs.Replacing.{each_has}
use Rattle.ssr_searching.proofs.Reaching.{without_finder, without_rules, finder_is, finder_replaces}
use Rattle.ssr_searching.proofs.searching.edits_by.Goals as goal

pub returns-in_err-finder-clause-answer : goal.returns-in_err-finder-clause-answer
returns-in_err-finder-clause-answer g c =
    let p = err_from_is_err_and c.from_residual.result c.from_residual.ensures.1 in
    rw (p.1, p.2) (without_finder g.S.Semantics.meanings _ _ _ _ (reading_of c.args.kinds) _ c.in_err-finder.field-0.0 c.in_err-finder.ensures)

pub returns-in_err-add_rules-clause-answer : goal.returns-in_err-add_rules-clause-answer
returns-in_err-add_rules-clause-answer g c =
    let p = err_from_is_err_and c.from_residual-in_err-add_rules.result c.from_residual-in_err-add_rules.ensures.1 in
    rw (p.1, p.2) (without_rules g.S.Semantics.meanings _ _ _ _ (reading_of c.args.kinds) _ _ c.in_ok-finder.ensures c.in_err-add_rules.field-0.0 c.in_err-add_rules.ensures)

pub returns-in-Ok-clause-answer : goal.returns-in-Ok-clause-answer
returns-in-Ok-clause-answer g c =
    edited _ c.in-Ok.edits (finder_is g.S.Semantics.meanings _ _ _ _ (reading_of c.args.kinds) _ _ c.in_ok-finder.ensures _ c.in_ok-add_rules.ensures) c.in-Ok.ensures.answer

pub returns-in-Err-Clash-clause-answer : goal.returns-in-Err-Clash-clause-answer
returns-in-Err-Clash-clause-answer g c =
    clash _ c.in-Err-Clash.earlier c.in-Err-Clash.later (finder_is g.S.Semantics.meanings _ _ _ _ (reading_of c.args.kinds) _ _ c.in_ok-finder.ensures _ c.in_ok-add_rules.ensures)
    (rw c.in-Err-Clash.field-0-is at c.in-Err-Clash.ensures).answer

pub unreachable-requires : goal.unreachable-requires
unreachable-requires g c =
    (rw c.in-Err-NoTemplate.field-0-is at c.in-Err-NoTemplate.ensures).answer
    (finder_replaces (reading_of c.args.kinds) (each_has c.args.kinds) _ _ _ (finder_is g.S.Semantics.meanings _ _ _ _ (reading_of c.args.kinds) _ _ c.in_ok-finder.ensures _ c.in_ok-add_rules.ensures))
