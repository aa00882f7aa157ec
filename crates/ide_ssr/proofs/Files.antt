-- The trees of a workspace by their numbers, files among them, and the ranges of tokens in these.
use Rattle.std.proofs.Common.{◌≡◌, ℕ, ◌+◌, ◌<◌, ◌≤◌, List, [], ◌∷◌, ◌++◌, length, map, take, get_or, slice_get, Option, Some, None, sym, ap, ◌∙◌, arith}
use Rattle.std.proofs.Math.Seq.{take_all}
use Rattle.std.proofs.lemmas.List.{map-append, take_more}
use Rattle.std.proofs.lemmas.Option.{none-some}
use Rattle.std.specs.Prelude.{IsCharBoundary}
use Rattle.std.specs.Option.{option_map, option_map_or}
use Rattle.ssr_syntax_tree.specs.declared.number.TokenNo.{TokenNo}
use Rattle.ssr_syntax_tree.specs.Syntax.{Syntax, source_of}
use Rattle.ssr_syntax_tree.specs.Places.{HasNode, offset_of}
use Rattle.ssr_syntax_tree.proofs.Shared.{offset_grows}
use Rattle.ssr_base_trees.specs.declared.ids.FileRange.{FileRange}
use Rattle.ssr_base_trees.specs.declared.ids.NodeId.{NodeId}
use Rattle.ssr_base_trees.specs.Workspace.{Workspace, PlacedTree, FileSpan, of_file, trees, with_number, tree_of, file_span_of}
use Rattle.ssr_base_trees.specs.Built.{IsNodeOf}
use Rattle.ssr_base_trees.specs.Laws.{IsSpanOf, LiesInFile}
use Rattle.ssr_base_trees.proofs.Shared.{and_some, boundary_passes, placed-file, some_and, span_of_text}
use Rattle.ide_ssr_bindings.specs.declared.bindings.Binding.{Binding}
use Rattle.ide_ssr_bindings.specs.Found.{FoundMatch}
use Rattle.ide_ssr_rewriting.specs.Comments.{kept_comments}
use Rattle.ide_ssr.specs.Comments.{token_span, comment_spans}

-- ** Trees by their numbers.

-- there is the tree of a node
pub tree_there : (w : Workspace) (x : NodeId) → IsNodeOf (trees w) x → tree_of w x.tree ≡ None → ⊥
tree_there w x node is =
    let had = some_and (with_number (trees w) x.tree) (λ p. HasNode p.syntax x.node.0) node in
    none-some had.0.syntax (sym is ∙ ap (option_map (λ (p : PlacedTree). p.syntax)) had.1)

syntax_of_file : (o : Option Syntax) (s : Syntax) → option_map (λ (p : PlacedTree). p.syntax) (option_map of_file o) ≡ Some s → o ≡ Some s
syntax_of_file None s is = absurd (none-some s is)
syntax_of_file (Some tree) s is = is

-- the tree of a file's number is the file's
pub file_is : (w : Workspace) (t : ℕ) (s : Syntax) → t < length w.files → tree_of w t ≡ Some s → slice_get w.files t ≡ Some s
file_is w t s within is =
    syntax_of_file (slice_get w.files t) s (ap (option_map (λ (p : PlacedTree). p.syntax)) (sym (placed-file w t within)) ∙ is)

-- ** Spans of a file.

-- a token of a file lies in it
pub token_in_file : (w : Workspace) (file : ℕ) (tree : Syntax) (token : ℕ) (range : FileSpan) → slice_get w.files file ≡ Some tree → range.file ≡ file
    → range.span.start ≡ offset_of tree token → range.span.end ≡ offset_of tree (1 + token)
    → IsCharBoundary (source_of tree) range.span.start → IsCharBoundary (source_of tree) range.span.end → LiesInFile w range
token_in_file w file tree token range is of start end begins ends =
    let found : slice_get w.files range.file ≡ Some tree = ap (slice_get w.files) of ∙ is in
    and_some (slice_get w.files range.file) (λ tree. IsSpanOf (source_of tree) range.span) tree found
    (span_of_text (source_of tree) range.span (omega (arith, offset_grows tree token (1 + token) (omega arith)))
    (boundary_passes (source_of tree) range.span.start begins) (boundary_passes (source_of tree) range.span.end ends))

-- ** Comments.

span_same : (file a b c d : ℕ) → a ≡ c → b ≡ d
    → ◌≡◌ {A = FileSpan} (record { file = file; span = record { start = a; end = b } }) (record { file = file; span = record { start = c; end = d } })
span_same file a b c d start end = cc

pub token_span_is : (file : ℕ) (tree : Syntax) (token : TokenNo) (range : FileRange) → range.file_id.0 ≡ file → range.range.start ≡ offset_of tree token.0
    → range.range.end ≡ offset_of tree (1 + token.0) → file_span_of range ≡ token_span file tree token
token_span_is file tree token range of start end =
    ap (λ (f : ℕ). record { file = f; span = record { start = range.range.start; end = range.range.end } }) of
    ∙ span_same file range.range.start range.range.end (offset_of tree token.0) (offset_of tree (1 + token.0)) start end

-- the spans of the first comments, one more at a time
pub spans_more : (file : ℕ) (tree : Syntax) (tokens : List TokenNo) (i : ℕ) (d : TokenNo) (old new : List FileRange) (range : FileRange) → i < length tokens
    → map file_span_of old ≡ map (token_span file tree) (take i tokens) → new ≡ old ++ range ∷ [] → file_span_of range ≡ token_span file tree (get_or tokens i d)
    → map file_span_of new ≡ map (token_span file tree) (take (i + 1) tokens)
spans_more file tree tokens i d old new range within so_far more is =
    ap (map file_span_of) more
    ∙ map-append file_span_of old (range ∷ [])
    ∙ ap (λ l. l ++ file_span_of range ∷ []) so_far
    ∙ ap (λ s. map (token_span file tree) (take i tokens) ++ s ∷ []) is
    ∙ sym (map-append (token_span file tree) (take i tokens) (get_or tokens i d ∷ []))
    ∙ ap (map (token_span file tree)) (sym (take_more tokens i d within))

pub spans_are : (w : Workspace) (m : FoundMatch) (node : NodeId) (tree : Syntax) (bindings : List Binding) (tokens : List TokenNo) (i : ℕ) (ranges : List FileRange)
    → node ≡ m.node → bindings ≡ m.bindings → slice_get w.files node.tree ≡ Some tree → tokens ≡ kept_comments tree node.node.0 bindings → length tokens ≤ i
    → map file_span_of ranges ≡ map (token_span node.tree tree) (take i tokens) → map file_span_of ranges ≡ comment_spans w m
spans_are w m node tree bindings tokens i ranges same_node same is tokens_are past so_far =
    let found : slice_get w.files m.node.tree ≡ Some tree = ap (λ (x : NodeId). slice_get w.files x.tree) (sym same_node) ∙ is in
    so_far
    ∙ ap (map (token_span node.tree tree)) (take_all i tokens past ∙ tokens_are)
    ∙ ap (λ bs. map (token_span node.tree tree) (kept_comments tree node.node.0 bs)) same
    ∙ ap (λ (x : NodeId). map (token_span x.tree tree) (kept_comments tree x.node.0 m.bindings)) same_node
    ∙ sym (ap (λ o. option_map_or (λ syntax. map (token_span m.node.tree syntax) (kept_comments syntax m.node.node.0 m.bindings)) o []) found)
