-- Private: how a `Tree` is seen as a plain tree, which is read back from its rows, and what its rows always meet.
-- `from_parts` says without these words which tree it is.
use Rattle.std.specs.Prelude.{ℕ, ◌+◌, ◌-◌, ◌==◌, ◌&&◌, nat_lt, cond, List, [], ◌∷◌, length, take, drop, slice_get, unwrap_or, zero, suc}
use Rattle.std.specs.String.{string_bytes}
use Rattle.ssr_syntax_kinds.specs.declared.kinds.SyntaxKind.TheVariants as k
use Rattle.ssr_syntax_tree.specs.declared.rows.NodeRow.{NodeRow}
use Rattle.ssr_syntax_kinds.specs.declared.token_rows.TokenRow.{TokenRow}
use Rattle.ssr_syntax_tree.specs.declared.tree.Tree.TheInside.{Inside}
use Rattle.ssr_syntax_tree.specs.Parts.{AreParts}
use Rattle.ssr_syntax_tree.specs.Syntax.{Token, Forest, nothing, leaf, branch, Syntax}

-- where the first of these rows begins; without one, the end of the source
abbrev pub next_start : List ℕ → List TokenRow → ℕ
next_start source [] = length source
next_start source (row ∷ next) = row.start

-- the tokens of rows
abbrev pub tokens_from : List ℕ → List TokenRow → List Token
tokens_from source [] = []
tokens_from source (row ∷ next) =
    record { kind = row.kind; text = take (next_start source next - row.start) (drop row.start source) } ∷ tokens_from source next

abbrev pub row_at : List NodeRow → ℕ → NodeRow
row_at rows n = unwrap_or (slice_get rows n) (record { kind = k.WHITESPACE; parent = 0; first = 0; past = 0; below = 0 })

abbrev pub token_in : List Token → ℕ → Token
token_in tokens t = unwrap_or (slice_get tokens t) (record { kind = k.WHITESPACE; text = [] })

-- the siblings from the node m and the token t on, up to before the node `last` and the token `past`
unfoldable pub grown : ℕ → List Token → List NodeRow → ℕ → ℕ → ℕ → ℕ → Forest
grown zero tokens rows m last t past = nothing
grown (suc fuel) tokens rows m last t past =
    let row = row_at rows m in
    cond (nat_lt m last && row.first == t)
    (branch row.kind
    (grown fuel tokens rows (1 + m) (1 + m + row.below) t row.past)
    (grown fuel tokens rows (1 + m + row.below) last row.past past))
    (cond (nat_lt t past) (leaf (token_in tokens t) (grown fuel tokens rows m last (1 + t) past)) nothing)

-- the tree of a source and rows
abbrev pub plain_of : List ℕ → List TokenRow → List NodeRow → Syntax
plain_of source tokens nodes =
    let read = tokens_from source tokens in
    record {
      kind = (row_at nodes 0).kind;
      children = grown (1 + length nodes + length read) read nodes 1 (length nodes) 0 (length read);
    }

abbrev pub syntax_of : Inside → Syntax
syntax_of tree = plain_of (string_bytes tree.source) tree.tokens tree.nodes

abbrev pub IsFlat : Inside → Type 0
IsFlat tree = AreParts (string_bytes tree.source) tree.tokens tree.nodes (syntax_of tree)
