use Rattle.std.proofs.Common.{length, sym, ◌∙◌}
use Rattle.std.proofs.lemmas.Bool.{eqb-true}
use Rattle.ssr_syntax_rows.proofs.TreeTokens.{none_joined}
use Rattle.ssr_syntax_rows.proofs.tree_tokens.tree_tokens.Goals as goal

pub returns-then-is_empty-clause-rows : goal.returns-then-is_empty-clause-rows
returns-then-is_empty-clause-rows c =
    sym (none_joined 0 c.args.joined.now c.args.rows (eqb-true (length c.args.joined.now) 0 (sym c.is_empty.ensures ∙ c.if-is_empty.true)))
