use Rattle.std.proofs.Common.{List, arith, length, map, refl, ap, sym, ◌≡◌, ◌∙◌}
use Rattle.std.specs.Prelude.{string_bytes, Ok}
use Rattle.std.proofs.lemmas.Str.{IsUtf8-string_bytes}
use Rattle.ssr_syntax_lex.specs.declared.tokens.RawToken.{RawToken}
use Rattle.ssr_syntax_lex.specs.Tokens.{row_of}
use Rattle.ssr_syntax_tree.specs.Parts.{AreParts}
use Rattle.ssr_syntax_rows.specs.Leaves.{leaves}
use Rattle.ssr_syntax_kinds.specs.declared.reach.Reach.{Reach}
use Rattle.ssr_syntax_types.specs.declared.goals.Goal.{Goal}
use Rattle.ssr_syntax_rows.specs.Lossless.{whole_tree}
use Rattle.ssr_syntax_rows.specs.MacroRules.{misnames_macros}
use Rattle.ssr_syntax.specs.declared.syntax_error.SyntaxError.TheVariants as errors
use Rattle.ssr_syntax_rows.specs.Preorder.{tree_rows}
use Rattle.ssr_syntax.specs.Private.Reading.{IsWritten}
use Rattle.ssr_syntax_rows.specs.TreeTokens.{joined_rows}
use Rattle.ssr_syntax_rows.specs.Solid.{pieces}
use Rattle.ssr_syntax.specs.Reading.{error_of, tree_reading}
use Rattle.ssr_syntax.proofs.Texts.{WrittenOfText, written_read, depth_fault, told_on, read_ok, read_misnamed, refused, tokens_told}
use Rattle.ssr_syntax_rows.proofs.Shared.{whole_parts, count_fits, start_of, taken_rows}
use Rattle.ssr_syntax.proofs.TextRows.{rows_count}
use Rattle.ssr_syntax.proofs.reading.written_tree.Goals as goal
use Rattle.ssr_syntax.proofs.reading.written_tree.Goals.{After-deref, In_ok-nodes}

pub overflow_cast-len : goal.overflow_cast-len
overflow_cast-len c =
    let is = c.requires.written.3 in
    omega (
      arith,
      rows_count (string_bytes c.args.text) c.args.rows c.requires.written.2 is.are is.tiles,
      c.requires.short,
      c.tree_tokens-tokens.ensures.count,
      c.len.ensures,
    )

-- what was written
written_is : (c : After-deref) (reach : Reach) (g : Goal) (raw : List RawToken) → IsWritten reach g (string_bytes c.args.text) c.args.rows c.args.written raw
    → WrittenOfText reach g (string_bytes c.args.text) raw c.args.written
written_is c reach g raw is =
    let reads = is.reads in
    written_read reach g (string_bytes c.args.text) raw reads.0 c.args.rows c.args.written reads.1 is.are reads.2

pub returns-in_err-nodes : goal.returns-in_err-nodes
returns-in_err-nodes c reach g raw are =
    let text = string_bytes c.args.text in
    let w = written_is (goal.at.returns-in_err-nodes c).After-deref reach g raw are in
    told_on (error_of c.in_err-nodes.field-0.0) c.from_residual.result (tree_reading reach g text raw) text
    c.from_residual.ensures.0 c.from_residual.ensures.1
    (depth_fault reach g text raw w.kind w.kids c.in_err-nodes.field-0.0 c.requires.short w.read
    (c.in_err-nodes.ensures w.kind w.kids (start_of raw) w.rows))

-- the parts of the flat tree
parts_are : (c : In_ok-nodes) (reach : Reach) (g : Goal) (raw : List RawToken) (are : IsWritten reach g (string_bytes c.args.text) c.args.rows c.args.written raw)
    (w : WrittenOfText reach g (string_bytes c.args.text) raw c.args.written)
    → AreParts (string_bytes c.args.text) c.tree_tokens-tokens.result c.in_ok-nodes.nodes
    (whole_tree w.kind w.kids (pieces (string_bytes c.args.text) raw))
parts_are c reach g raw are w =
    let text = string_bytes c.args.text in
    let n = c.in_ok-nodes.ensures w.kind w.kids (start_of raw) w.rows in
    let rows_are : c.tree_tokens-tokens.result ≡ taken_rows 0 (leaves w.kids) (map row_of raw) =
    c.tree_tokens-tokens.ensures.rows ∙ ap (λ js. joined_rows 0 0 js c.args.rows) c.deref.ensures.value
    ∙ tokens_told reach g text raw c.args.rows c.args.written w are.are in
    let count : c.len.result ≡ length (taken_rows 0 (leaves w.kids) (map row_of raw)) = c.len.ensures ∙ ap length rows_are in
    whole_parts text raw w.kind w.kids text c.tree_tokens-tokens.result c.in_ok-nodes.nodes
    (IsUtf8-string_bytes c.args.text) c.requires.short are.tiles are.spelled w.read.are_solid w.read.few
    refl rows_are (n.1.0 ∙ ap (λ m. tree_rows (start_of raw) m w.kind w.kids) count)
    (count_fits (start_of raw) c.len.result w.kind w.kids c.args.written.rows c.in_ok-nodes.nodes w.rows n.1.1 n.1.0)

pub from_parts-tree-requires : goal.from_parts-tree-requires
from_parts-tree-requires c =
    let text = string_bytes c.args.text in
    let known = c.requires.written in
    let w = written_is (goal.at.from_parts-tree-requires c).After-deref known.0 known.1 known.2 known.3 in (
      whole_tree w.kind w.kids (pieces text known.2),
      parts_are (goal.at.from_parts-tree-requires c).In_ok-nodes known.0 known.1 known.2 known.3 w,
    )

pub returns-then-misnames_macros : goal.returns-then-misnames_macros
returns-then-misnames_macros c reach g raw are =
    let text = string_bytes c.args.text in
    let w = written_is (goal.at.returns-then-misnames_macros c).After-deref reach g raw are in
    let is = c.from_parts-tree.ensures (whole_tree w.kind w.kids (pieces text raw)) (parts_are (goal.at.returns-then-misnames_macros c).In_ok-nodes reach g raw are w) in
    refused errors.NoTree (tree_reading reach g text raw) text c.requires.short
    (read_misnamed reach g text raw w.kind w.kids w.read (c.in_ok-nodes.ensures w.kind w.kids (start_of raw) w.rows).0
    (ap misnames_macros (sym is) ∙ sym c.misnames_macros.ensures ∙ c.if-misnames_macros.true))

pub returns : goal.returns
returns c reach g raw are =
    let text = string_bytes c.args.text in
    let w = written_is (goal.at.returns c).After-deref reach g raw are in
    let is = c.from_parts-tree.ensures (whole_tree w.kind w.kids (pieces text raw)) (parts_are (goal.at.returns c).In_ok-nodes reach g raw are w) in
    read_ok reach g text raw w.kind w.kids w.read (c.in_ok-nodes.ensures w.kind w.kids (start_of raw) w.rows).0
    (ap misnames_macros (sym is) ∙ sym c.misnames_macros.ensures ∙ c.if-misnames_macros.false)
    ∙ ap Ok (sym is)
