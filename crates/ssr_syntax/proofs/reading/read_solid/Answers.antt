use Rattle.std.proofs.Common.{◌∙◌, List}
use Rattle.std.specs.Prelude.{string_bytes}
use Rattle.ssr_syntax_lex.specs.declared.tokens.RawToken.{RawToken}
use Rattle.ssr_syntax.specs.Private.Reading.{IsCut, IsWritten}
use Rattle.ssr_syntax.specs.Reading.{tree_reading, error_of}
use Rattle.ssr_syntax.proofs.Texts.{told_on, parser_fault}
use Rattle.ssr_syntax.proofs.TextRows.{written_of_cut}
use Rattle.ssr_syntax.proofs.reading.read_solid.Goals as goal
use Rattle.ssr_syntax.proofs.reading.read_solid.Goals.{In_ok-written}

pub returns-in_err-written : goal.returns-in_err-written
returns-in_err-written c raw are =
    let text = string_bytes c.args.text in
    told_on (error_of c.in_err-written.field-0.0) c.from_residual.result (tree_reading c.args.reach c.args.goal text raw) text
    c.from_residual.ensures.0 c.from_residual.ensures.1
    (parser_fault c.args.reach c.args.goal text raw c.deref.result.now c.in_err-written.field-0.0 c.requires.short
    (c.deref.ensures.value ∙ are.solid_are) c.in_err-written.ensures)

-- what was written
written_is : (c : In_ok-written) (raw : List RawToken) → IsCut (string_bytes c.args.text) c.args.rows c.args.solid.items raw
    → IsWritten c.args.reach c.args.goal (string_bytes c.args.text) c.args.rows c.in_ok-written.written raw
written_is c raw are =
    let reads = c.in_ok-written.ensures in
    written_of_cut c.args.reach c.args.goal (string_bytes c.args.text) c.args.rows c.args.solid.items c.deref.result.now raw reads.0
    c.in_ok-written.written c.kinds.result.now are c.deref.ensures.value reads.1 c.kinds.ensures reads.2

pub written_tree-requires-clause-written : goal.written_tree-requires-clause-written
written_tree-requires-clause-written c =
    let known = c.requires.cut in
    (c.args.reach, c.args.goal, known.0, written_is (goal.at.written_tree-requires-clause-written c).In_ok-written known.0 known.1)

pub returns : goal.returns
returns c raw are = c.written_tree.ensures c.args.reach c.args.goal raw (written_is (goal.at.returns c).In_ok-written raw are)
