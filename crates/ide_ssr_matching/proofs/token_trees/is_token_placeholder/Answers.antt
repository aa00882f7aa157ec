use Rattle.std.proofs.Common.{Some, get_or, None, subst}
use Rattle.std.proofs.lemmas.List.{get_or_default}
use Rattle.ssr_syntax_tree.specs.Places.{HasElement}
use Rattle.ide_ssr_resolved_rule.proofs.Shared.{in_table, at_table}
use Rattle.ide_ssr_matching.proofs.OwnTokens.{token_told}
use Rattle.ide_ssr_matching.proofs.token_trees.is_token_placeholder.Goals as goal

pub bounds-token_placeholders-token : goal.bounds-token_placeholders-token
bounds-token_placeholders-token c =
    let rule = c.args.rule.now in
    in_table rule.names c.token_placeholders.result.now c.in-Token.token.0 (Some rule.pattern) c.token_placeholders.ensures
    (subst (HasElement rule.pattern) c.in-Token.is c.requires)

pub returns-in-Token : goal.returns-in-Token
returns-in-Token c =
    let rule = c.args.rule.now in
    let table = c.token_placeholders.result.now in
    let told = get_or table c.in-Token.token.0 None in
    let has = subst (HasElement rule.pattern) c.in-Token.is c.requires in
    token_told rule rule.pattern c.args.child c.in-Token.token told c.is_some.result c.in-Token.is
    (at_table rule.names table c.in-Token.token.0 (Some rule.pattern) told c.token_placeholders.ensures has
    (get_or_default table c.in-Token.token.0 None told
    (in_table rule.names table c.in-Token.token.0 (Some rule.pattern) c.token_placeholders.ensures has)))
    c.is_some.ensures
