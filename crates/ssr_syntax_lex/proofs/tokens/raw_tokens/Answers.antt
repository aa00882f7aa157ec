use Rattle.std.proofs.Common.{◌∙◌, ◌+◌, sym, arith}
use Rattle.std.proofs.lemmas.Option.{slice_get_within}
use Rattle.ssr_syntax_lex.proofs.FromRows.{one_token_more, all_tokens}
use Rattle.ssr_syntax_lex.proofs.tokens.raw_tokens.Goals as goal

pub loop-row-preserved : goal.loop-row-preserved
loop-row-preserved c =
    one_token_more c.args.total c.loop-row.number (c.loop-row.number + 1) c.args.rows.now c.in-Some.row c.raw_token.result c.loop-row.tokens.items c.push.new.self.items c.get-in-Some.result
    (omega arith) c.in-Some.ensures c.get-in-Some.ensures c.raw_token.ensures c.in_ok-push.ensures.items c.loop-row.invariant

pub loop-row-smaller : goal.loop-row-smaller
loop-row-smaller c =
    omega (arith, slice_get_within c.args.rows.now c.loop-row.number c.in-Some.row (sym c.in-Some.ensures))

pub returns : goal.returns
returns c = all_tokens c.args.total c.loop-row.number c.args.rows.now c.loop-row.tokens.items (sym c.get.ensures ∙ c.in_default.is) c.loop-row.invariant
