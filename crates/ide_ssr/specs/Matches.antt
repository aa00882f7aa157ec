-- What the calls of nested matches answer.
use Rattle.std.specs.Prelude.{ℕ, List, string_bytes}
use Rattle.ssr_base_trees.specs.declared.ids.FileRange.{FileRange}
use Rattle.ssr_base_trees.specs.declared.ids.NodeId.{NodeId}
use Rattle.ssr_base_trees.specs.declared.semantics.SelfKind.{SelfKind}
use Rattle.ssr_base_trees.specs.Workspace.{FileSpan, file_span_of}
use Rattle.ide_ssr.specs.declared.matches.Match.{Match, out-Match}
use Rattle.ide_ssr.specs.declared.matches.PlaceholderMatch.{PlaceholderMatch, out-PlaceholderMatch}

-- the text of a match
abbrev pub text_of : Match → List ℕ
text_of m = (out-Match m).text.now

-- where a match comes from
abbrev pub range_of : Match → FileRange
range_of m = (out-Match m).range

-- the node of a match
abbrev pub node_of : Match → NodeId
node_of m = (out-Match m).node

-- the place of a match's rule
abbrev pub rule_of : Match → ℕ
rule_of m = (out-Match m).rule_index

-- the placeholders of a match
abbrev pub placeholders_of : Match → List PlaceholderMatch
placeholders_of m = (out-Match m).placeholders.items

-- the name of a placeholder
abbrev pub name_of : PlaceholderMatch → List ℕ
name_of p = string_bytes (out-PlaceholderMatch p).var.0

-- where what a placeholder holds comes from
abbrev pub place_of : PlaceholderMatch → FileRange
place_of p = (out-PlaceholderMatch p).range

-- where what a placeholder holds comes from, as bytes of a file
abbrev pub span_of : PlaceholderMatch → FileSpan
span_of p = file_span_of (place_of p)

-- how often the receiver that a placeholder holds is dereferenced
abbrev pub deref_count_of : PlaceholderMatch → ℕ
deref_count_of p = (out-PlaceholderMatch p).deref_count

-- how the receiver that a placeholder holds is taken
abbrev pub self_kind_of : PlaceholderMatch → SelfKind
self_kind_of p = (out-PlaceholderMatch p).self_kind

-- the matches in a placeholder
abbrev pub inner_of : PlaceholderMatch → List Match
inner_of p = (out-PlaceholderMatch p).inner.items

-- where the comments stand that a match keeps
abbrev pub comments_of : Match → List FileRange
comments_of m = (out-Match m).comments.items
