-- Laws of ranges and texts in bytes.
use Rattle.std.proofs.Common.{◌≡◌, ℕ, ◌+◌, ◌-◌, ◌<◌, ◌≤◌, List, [], ◌∷◌, length, take, drop, get_or, slice_range, append-nil, sym, ap, ◌∙◌, subst, arith}
use Rattle.std.proofs.lemmas.List.{drop_more, get_or_default}
use Rattle.std.proofs.lemmas.Option.{unwrap_or-slice_get}
use Rattle.ssr_syntax_tree.specs.Places.{Node, Part, token_part, node_part, parts_in, parts_of, node_of, token_of, size_of, IsAbove, text_of, offset_of, start_of, end_of, HasNode, HasToken}
use Rattle.ssr_syntax_tree.specs.Syntax.{Forest, nothing, leaf, branch, Syntax, node_count, token_count, tokens_of, spelled, source_of}
use Rattle.ssr_syntax_tree.specs.Private.Siblings.{At}
use Rattle.ssr_syntax_tree.proofs.Siblings.{at_leaf, at_next, node_of-at, length-tokens_in}
use Rattle.ssr_syntax_tree.proofs.Places.{known, below_within, tokens_apart, tokens_in-node}
use Rattle.ssr_syntax_tree.proofs.RowLaws.{offset_grows, slice_spelled}

pub start_before_end : (syntax : Syntax) (node : Node) → start_of syntax node ≤ end_of syntax node
start_before_end syntax node = offset_grows syntax node.first (node.first + token_count node.children) (omega arith)

-- a node below another one has its range in that one's
pub start_of-below : (syntax : Syntax) (n m : ℕ) → HasNode syntax n → IsAbove (node_of syntax n) m → start_of syntax (node_of syntax n) ≤ start_of syntax (node_of syntax m)
start_of-below syntax n m h above = offset_grows syntax _ _ (below_within syntax n m h above).starts

pub end_of-below : (syntax : Syntax) (n m : ℕ) → HasNode syntax n → IsAbove (node_of syntax n) m → end_of syntax (node_of syntax m) ≤ end_of syntax (node_of syntax n)
end_of-below syntax n m h above = offset_grows syntax _ _ (below_within syntax n m h above).ends

-- the range of a node that comes after another one and isn't below it comes after that one's
pub ranges_apart : (syntax : Syntax) (n m : ℕ) → HasNode syntax n → HasNode syntax m → n + size_of (node_of syntax n) ≤ m → end_of syntax (node_of syntax n) ≤ start_of syntax (node_of syntax m)
ranges_apart syntax n m h g behind = offset_grows syntax _ _ (tokens_apart syntax n m h g behind)

-- its text is the source at its range
pub text_of-slice : (syntax : Syntax) (n : ℕ) → HasNode syntax n → let node = node_of syntax n in take (end_of syntax node - start_of syntax node) (drop (start_of syntax node) (source_of syntax)) ≡ text_of node
text_of-slice syntax n h =
    let node = node_of syntax n in
    slice_spelled syntax node.first (node.first + token_count node.children) (omega arith)
    ∙ ap (λ count. spelled (take count (drop node.first (tokens_of syntax)))) (omega arith)
    ∙ ap spelled (tokens_in-node syntax n h)

pub text_read : (syntax : Syntax) (n : ℕ) → HasNode syntax n → (source : List ℕ) (start end : ℕ) → source ≡ source_of syntax → start ≡ start_of syntax (node_of syntax n) → end ≡ end_of syntax (node_of syntax n) → slice_range source start end ≡ text_of (node_of syntax n)
text_read syntax n h source start end whole first past = rw whole (rw first (rw past (text_of-slice syntax n h)))

-- a token's text is the source at its range
pub token_text-slice : (syntax : Syntax) (t : ℕ) → HasToken syntax t → take (offset_of syntax (1 + t) - offset_of syntax t) (drop (offset_of syntax t) (source_of syntax)) ≡ (token_of syntax t).text
unfolding token_of
token_text-slice syntax t h =
    let tokens = tokens_of syntax in
    let token = token_of syntax t in
    let within : t < length tokens = omega (arith, length-tokens_in syntax.children) in
    slice_spelled syntax t (1 + t) (omega arith)
    ∙ ap (λ count. spelled (take count (drop t tokens))) (let one : 1 + t - t ≡ 1 = omega arith in one)
    ∙ ap (λ rest. spelled (take 1 rest)) (drop_more tokens t token within)
    ∙ append-nil (get_or tokens t token).text
    ∙ ap (λ token. token.text) (get_or_default tokens t token _ within ∙ sym (unwrap_or-slice_get tokens t _))

pub token_text_read : (syntax : Syntax) (t : ℕ) → HasToken syntax t → (source : List ℕ) (start end : ℕ) → source ≡ source_of syntax → start ≡ offset_of syntax t → end ≡ offset_of syntax (1 + t) → slice_range source start end ≡ (token_of syntax t).text
token_text_read syntax t h source start end whole first past = rw whole (rw first (rw past (token_text-slice syntax t h)))

-- ** The children of a node, one behind another.

-- a node as a tree has it under its number
abbrev pub IsOf : Syntax → Node → Type 0
IsOf syntax node = HasNode syntax node.number × (node_of syntax node.number ≡ node)
