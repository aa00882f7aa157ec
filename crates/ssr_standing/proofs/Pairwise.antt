-- Two runs of nodes, token by token and node by node.
use Rattle.std.proofs.Common.{◌≡◌, ◌∙◌, ℕ, ◌+◌, ◌<◌, ◌≤◌, List, [], ◌∷◌, ◌++◌, length, take, map, sym, ap, subst, inl, inr, arith, length-append}
use Rattle.std.proofs.lemmas.Bool.{cases_eq}
use Rattle.std.proofs.lemmas.List.{flat_map_more, get_or-map, length-map, same_lists, take_more}
use Rattle.std.proofs.lemmas.List.Elements.{All-from_get_or}
use Rattle.ssr_syntax_kinds.specs.declared.kinds.SyntaxKind.{SyntaxKind}
use Rattle.ssr_syntax_tree.specs.Syntax.{Syntax, Token, node_count, spelled, token_count, tokens_in, tokens_of}
use Rattle.ssr_syntax_tree.specs.Places.{HasNode, HasToken, node_of, offset_of, root_of, token_of}
use Rattle.ssr_syntax_tree.proofs.Shared.{length-nodes_in, length-tokens_in}
use Rattle.ssr_standing.specs.Private.Runs.{HaveSameNodes, IsFilled, Shape, below_of, mould_of, shape_of}
use Rattle.ssr_standing.proofs.Segments.{below_at, token_at, tokens_at}

-- the next token begins where a token ends
pub offset_more : (s : Syntax) (t : ℕ) → HasToken s t → offset_of s (1 + t) ≡ offset_of s t + length (token_of s t).text
offset_more s t has =
    let more : 1 + t ≡ t + 1 = omega arith in
    let token = token_of s t in
    ap (offset_of s) more
    ∙ ap (λ (tokens : List Token). length (spelled tokens))
    (take_more (tokens_of s) t token (omega (arith, has, length-tokens_in s.children))
    ∙ ap (λ (x : Token). take t (tokens_of s) ++ x ∷ []) (sym (token_at s t token has)))
    ∙ ap length (sym (flat_map_more (λ (x : Token). x.text) [] (take t (tokens_of s)) token))
    ∙ length-append (spelled (take t (tokens_of s))) token.text

pub same_mould : (a b : Token) → a.kind ≡ b.kind → length a.text ≡ length b.text → mould_of a ≡ mould_of b
same_mould a b kinds bytes =
    ap (λ (k : SyntaxKind). record { kind = k; bytes = length a.text }) kinds ∙ ap (λ (n : ℕ). record { kind = b.kind; bytes = n }) bytes

pub same_shape : (a b : Shape) → a.kind ≡ b.kind → a.start ≡ b.start → a.tokens ≡ b.tokens → a ≡ b
same_shape a b kinds starts counts =
    ap (λ (k : SyntaxKind). record { kind = k; start = a.start; tokens = a.tokens }) kinds
    ∙ ap (λ (n : ℕ). record { kind = b.kind; start = n; tokens = a.tokens }) starts
    ∙ ap (λ (n : ℕ). record { kind = b.kind; start = b.start; tokens = n }) counts

-- what holds of the first numbers, and of one more
pub one_further : (P : ℕ → Type 0) (n : ℕ) → ((k : ℕ) → k < n → P k) → P n → (k : ℕ) → k < n + 1 → P k
one_further P n so_far here k less = elim (cases_eq k n) [
  | inl same ↦ subst P (sym same) here
  | inr other ↦ so_far k (omega arith)
]

module _ (s t : Syntax) (n m : ℕ) (has : HasNode s n) (there : HasNode t m) where
  -- each two tokens have the same mould
  pub all_moulds : (first other : ℕ) → first ≡ (node_of s n).first → other ≡ (node_of t m).first
      → token_count (node_of s n).children ≡ token_count (node_of t m).children
      → (node_of s n).first + token_count (node_of s n).children ≤ token_count s.children
      → (node_of t m).first + token_count (node_of t m).children ≤ token_count t.children
      → ((k : ℕ) → k < token_count (node_of s n).children → mould_of (token_of s (first + k)) ≡ mould_of (token_of t (other + k)))
      → map mould_of (tokens_in (node_of s n).children) ≡ map mould_of (tokens_in (node_of t m).children)
  all_moulds first other begins starts counts within fits each =
      let xs = tokens_in (node_of s n).children in
      let ys = tokens_in (node_of t m).children in
      let long : length xs ≡ token_count (node_of s n).children = length-tokens_in (node_of s n).children in
      let other_long : length ys ≡ token_count (node_of t m).children = length-tokens_in (node_of t m).children in
      let d = token_of s 0 in
      same_lists (map mould_of xs) (map mould_of ys) (omega (arith, counts, long, other_long, length-map xs mould_of, length-map ys mould_of))
      (λ k e less.
      let inside : k < length xs = omega (arith, less, length-map xs mould_of) in
      get_or-map mould_of xs k d e inside
      ∙ ap mould_of (tokens_at s n k d has (omega (arith, inside, long, within)) (omega (arith, inside, long)))
      ∙ ap (λ (f : ℕ). mould_of (token_of s (f + k))) (sym begins)
      ∙ each k (omega (arith, inside, long))
      ∙ ap (λ (f : ℕ). mould_of (token_of t (f + k))) starts
      ∙ sym (ap mould_of (tokens_at t m k d there (omega (arith, inside, long, counts, fits)) (omega (arith, inside, long, counts))))
      ∙ sym (get_or-map mould_of ys k d e (omega (arith, inside, long, counts, other_long))))

  -- each two nodes below have the same shape, and tokens
  pub all_shapes : (first other : ℕ) → first ≡ (node_of s n).first → other ≡ (node_of t m).first
      → node_count (node_of s n).children ≡ node_count (node_of t m).children
      → n + (1 + node_count (node_of s n).children) ≤ 1 + node_count s.children
      → m + (1 + node_count (node_of t m).children) ≤ 1 + node_count t.children
      → ((k : ℕ) → k < node_count (node_of s n).children
      → (shape_of first (node_of s (n + (1 + k))) ≡ shape_of other (node_of t (m + (1 + k)))) × IsFilled (node_of s (n + (1 + k))))
      → HaveSameNodes (node_of s n) (node_of t m)
  all_shapes first other begins starts counts within fits each =
      let a = node_of s n in
      let b = node_of t m in
      let long : length (below_of a) ≡ node_count a.children = length-nodes_in a.number (1 + a.number) a.first a.children in
      let other_long : length (below_of b) ≡ node_count b.children = length-nodes_in b.number (1 + b.number) b.first b.children in
      let d = root_of s in
      record {
        shapes =
            same_lists (map (shape_of a.first) (below_of a)) (map (shape_of b.first) (below_of b))
            (omega (arith, counts, long, other_long, length-map (below_of a) (shape_of a.first), length-map (below_of b) (shape_of b.first)))
            (λ k e less.
            let inside : k < length (below_of a) = omega (arith, less, length-map (below_of a) (shape_of a.first)) in
            get_or-map (shape_of a.first) (below_of a) k d e inside
            ∙ ap (shape_of a.first) (below_at s n k d has (omega (arith, inside, long, within)) (omega (arith, inside, long)))
            ∙ ap (λ (f : ℕ). shape_of f (node_of s (n + (1 + k)))) (sym begins)
            ∙ (each k (omega (arith, inside, long))).0
            ∙ ap (λ (f : ℕ). shape_of f (node_of t (m + (1 + k)))) starts
            ∙ sym (ap (shape_of b.first) (below_at t m k d there (omega (arith, inside, long, counts, fits)) (omega (arith, inside, long, counts))))
            ∙ sym (get_or-map (shape_of b.first) (below_of b) k d e (omega (arith, inside, long, counts, other_long))));
        filled =
            All-from_get_or IsFilled (below_of a) d
            (λ k inside.
            subst IsFilled (sym (below_at s n k d has (omega (arith, inside, long, within)) (omega (arith, inside, long))))
            (each k (omega (arith, inside, long))).1);
      }
