-- The bytes of nodes in plain trees, and in those that are laid over the pieces of a text.
use Rattle.std.proofs.Common.{◌≡◌, ℕ, zero, suc, ◌+◌, ◌≤◌, ◌==◌, Bool, true, false, ◌&&◌, ◌||◌, List, [], ◌∷◌, ◌++◌, length, take, inl, inr, refl, sym, ap, ◌∙◌, arith, append_assoc}
use Rattle.std.specs.List.{list_any}
use Rattle.std.proofs.Math.Bool.{or-false}
use Rattle.std.proofs.Math.Seq.{take-append_seam}
use Rattle.std.proofs.lemmas.Bool.{and_parts, eqb-true, eq-eqb, or_cases}
use Rattle.std.proofs.lemmas.Grind.{flat_map-append}
use Rattle.std.proofs.lemmas.List.{append-nil, length-append}
use Rattle.std.proofs.lemmas.List.Folds.{list_any-append}
use Rattle.ssr_syntax_kinds.specs.declared.kinds.SyntaxKind.{SyntaxKind}
use Rattle.ssr_syntax_tree.specs.Places.{Node, nodes_in, start_of, end_of, offset_of}
use Rattle.ssr_syntax_tree.specs.Syntax as plain
use Rattle.ssr_syntax_tree.specs.Syntax.{Syntax, nothing, leaf, branch, tokens_in, tokens_of}
use Rattle.ssr_syntax_tree.proofs.Shared.{length-tokens_in}
use Rattle.ssr_syntax_forms.specs.Trees as solid
use Rattle.ssr_syntax_forms.specs.declared.tokens.Token.{Token}
use Rattle.ssr_syntax_rows.specs.Lossless.{gap, behind_gap, upto, past, before, behind, lossless}
use Rattle.ssr_syntax_rows.proofs.Shared.{upto-add, upto-zero, upto-behind_trivia}
use Rattle.ssr_syntax_places.specs.Spans.{has_node_at}

-- ** Tests of numbers.

tests_alike : (p q : Bool) → (p ≡ true → q ≡ true) → (q ≡ true → p ≡ true) → p ≡ q
tests_alike true q f g = sym (f refl)
tests_alike false true f g = g refl
tests_alike false false f g = refl

pub same_tests : (a b c d : ℕ) → (a ≡ b → c ≡ d) → (c ≡ d → a ≡ b) → (a == b) ≡ (c == d)
same_tests a b c d f g =
    tests_alike (a == b) (c == d) (λ e. eq-eqb c d (f (eqb-true a b e))) (λ e. eq-eqb a b (g (eqb-true c d e)))

-- two tests that fail
pub both_fail : (a b c d : ℕ) → (a ≡ b → ⊥) → (c ≡ d → ⊥) → (a == b) ≡ (c == d)
both_fail a b c d f g = same_tests a b c d (λ e. absurd (f e)) (λ e. absurd (g e))

-- ** Bytes.

abbrev pub bytes : List plain.Token → ℕ
bytes ts = length (plain.spelled ts)

pub bytes_append : (ts us : List plain.Token) → bytes (ts ++ us) ≡ bytes ts + bytes us
bytes_append ts us =
    ap length (flat_map-append (λ (t : plain.Token). t.text) ts us) ∙ length-append (plain.spelled ts) (plain.spelled us)

pub bytes_first : (t : plain.Token) (ts : List plain.Token) → bytes (t ∷ ts) ≡ length t.text + bytes ts
bytes_first t ts = length-append t.text (plain.spelled ts)

-- ** Nodes of siblings that begin at the byte `at`.

abbrev pub has_span : ℕ → ℕ → ℕ → plain.Forest → Bool
has_span at from to nothing = false
has_span at from to (leaf t x) = has_span (at + length t.text) from to x
has_span at from to (branch kind below x) =
    (at == from && at + bytes (tokens_in below) == to) || (has_span at from to below || has_span (at + bytes (tokens_in below)) from to x)

abbrev is_there : Syntax → ℕ → ℕ → ℕ → Node → Bool
is_there s front from to node = front + start_of s node == from && front + end_of s node == to

offset_is : (s : Syntax) (front_tokens rest : List plain.Token) (n : ℕ) → tokens_of s ≡ front_tokens ++ rest → n ≡ length front_tokens
    → offset_of s n ≡ bytes front_tokens
offset_is s front_tokens rest n e count =
    ap (λ l. length (plain.spelled (take l (tokens_of s)))) count
    ∙ ap (λ l. length (plain.spelled (take (length front_tokens) l))) e
    ∙ ap (λ l. length (plain.spelled l)) (take-append_seam front_tokens rest)

-- a test with the same bytes in front of both
with_front : (front a b c : ℕ) → a ≡ b → (front + a == front + c) ≡ (b == c)
with_front front a b c e = same_tests (front + a) (front + c) b c (λ d. omega (arith, d, e)) (λ d. omega (arith, d, e))

node_there : (s : Syntax) (front from to parent m : ℕ) (kind : SyntaxKind) (below : plain.Forest) (first rest : List plain.Token) (n : ℕ)
    → tokens_of s ≡ first ++ (tokens_in below ++ rest) → n ≡ length first
    → is_there s front (front + from) (front + to) (record { number = m; parent = parent; first = n; kind = kind; children = below })
    ≡ (bytes first == from && bytes first + bytes (tokens_in below) == to)
node_there s front from to parent m kind below first rest n e count =
    let starts : offset_of s n ≡ bytes first = offset_is s first (tokens_in below ++ rest) n e count in
    let behind_count : n + plain.token_count below ≡ length (first ++ tokens_in below) =
    omega (arith, count, length-append first (tokens_in below), length-tokens_in below) in
    let ends : offset_of s (n + plain.token_count below) ≡ bytes first + bytes (tokens_in below) =
    offset_is s (first ++ tokens_in below) rest (n + plain.token_count below) (e ∙ sym (append_assoc first (tokens_in below) rest)) behind_count
    ∙ bytes_append first (tokens_in below) in
    ap (λ b. b && front + offset_of s (n + plain.token_count below) == front + to) (with_front front (offset_of s n) (bytes first) from starts)
    ∙ ap (λ b. bytes first == from && b)
    (with_front front (offset_of s (n + plain.token_count below)) (bytes first + bytes (tokens_in below)) to ends)

nodes_there : (s : Syntax) (front from to parent m n at : ℕ) (z : plain.Forest) (first rest : List plain.Token) → tokens_of s ≡ first ++ (tokens_in z ++ rest)
    → n ≡ length first → at ≡ bytes first
    → list_any (is_there s front (front + from) (front + to)) (nodes_in parent m n z) ≡ has_span at from to z
nodes_there s front from to parent m n at nothing first rest e count place = refl
nodes_there s front from to parent m n at (leaf t x) first rest e count place =
    let both : first ++ (t ∷ (tokens_in x ++ rest)) ≡ (first ++ t ∷ []) ++ (tokens_in x ++ rest) = sym (append_assoc first (t ∷ []) (tokens_in x ++ rest)) in
    nodes_there s front from to parent m (1 + n) (at + length t.text) x (first ++ t ∷ []) rest (e ∙ both)
    (omega (arith, count, length-append first (t ∷ [])))
    (omega (arith, place, bytes_append first (t ∷ []), bytes_first t []))
nodes_there s front from to parent m n at (branch kind below x) first rest e count place =
    let test : Node → Bool = is_there s front (front + from) (front + to) in
    let node : Node = record { number = m; parent = parent; first = n; kind = kind; children = below } in
    let inner : List Node = nodes_in m (1 + m) n below in
    let later : List Node = nodes_in parent (1 + m + plain.node_count below) (n + plain.token_count below) x in
    let inside : tokens_of s ≡ first ++ (tokens_in below ++ (tokens_in x ++ rest)) =
    e ∙ ap (λ l. first ++ l) (append_assoc (tokens_in below) (tokens_in x) rest) in
    let beside : tokens_of s ≡ (first ++ tokens_in below) ++ (tokens_in x ++ rest) =
    inside ∙ sym (append_assoc first (tokens_in below) (tokens_in x ++ rest)) in
    ap (λ b. b || list_any test (inner ++ later)) (node_there s front from to parent m kind below first (tokens_in x ++ rest) n inside count)
    ∙ ap (λ l. (l == from && l + bytes (tokens_in below) == to) || list_any test (inner ++ later)) (sym place)
    ∙ ap (λ b. (at == from && at + bytes (tokens_in below) == to) || b)
    (list_any-append test inner later
    ∙ ap (λ b. b || list_any test later) (nodes_there s front from to m (1 + m) n at below first (tokens_in x ++ rest) inside count place)
    ∙ ap (λ b. has_span at from to below || b)
    (nodes_there s front from to parent (1 + m + plain.node_count below) (n + plain.token_count below) (at + bytes (tokens_in below)) x
    (first ++ tokens_in below) rest beside
    (omega (arith, count, length-append first (tokens_in below), length-tokens_in below))
    (omega (arith, place, bytes_append first (tokens_in below)))))

-- all nodes of a tree
pub tree_spans : (s : Syntax) (front from to : ℕ)
    → has_node_at s front (front + from) (front + to) ≡ has_span 0 from to (branch s.kind s.children nothing)
unfolding has_node_at
tree_spans s front from to =
    let test : Node → Bool = is_there s front (front + from) (front + to) in
    let all : tokens_of s ≡ [] ++ (tokens_in s.children ++ []) = sym (append-nil (tokens_in s.children)) in
    ap (λ b. b || list_any test (nodes_in 0 1 0 s.children)) (node_there s front from to 0 0 s.kind s.children [] [] 0 all refl)
    ∙ ap (λ b. (0 == from && 0 + bytes (tokens_in s.children) == to) || b)
    (nodes_there s front from to 0 1 0 0 s.children [] [] all refl refl ∙ sym (or-false (has_span 0 from to s.children)))

-- ** Nodes lie within their siblings.

pub spans_within : (at from to : ℕ) (z : plain.Forest) → has_span at from to z ≡ true → (at ≤ from) × (to ≤ at + bytes (tokens_in z))
spans_within at from to nothing is = absurd (cc)
spans_within at from to (leaf t x) is =
    let inner = spans_within (at + length t.text) from to x is in
    (omega (arith, inner.0), omega (arith, inner.1, bytes_first t (tokens_in x)))
spans_within at from to (branch kind below x) is =
    let n : ℕ = bytes (tokens_in below) in
    let all : bytes (tokens_in (branch kind below x)) ≡ n + bytes (tokens_in x) = bytes_append (tokens_in below) (tokens_in x) in
    elim (or_cases (at == from && at + n == to) (has_span at from to below || has_span (at + n) from to x) is) [
      | inl root ↦
          let halves = and_parts (at == from) (at + n == to) root in
          let starts : at ≡ from = eqb-true at from halves.0 in
          let ends : at + n ≡ to = eqb-true (at + n) to halves.1 in
          (omega (arith, starts), omega (arith, ends, all))
      | inr other ↦ elim (or_cases (has_span at from to below) (has_span (at + n) from to x) other) [
        | inl under ↦ let inner = spans_within at from to below under in (inner.0, omega (arith, inner.1, all))
        | inr beside ↦ let inner = spans_within (at + n) from to x beside in (omega (arith, inner.0), omega (arith, inner.1, all))
      ]
    ]

-- ** Trees laid over the pieces of a text.

pub tokens_before : (ts : List plain.Token) (x : plain.Forest) → tokens_in (before ts x) ≡ ts ++ tokens_in x
tokens_before [] x = refl
tokens_before (t ∷ ts) x = ap (λ l. t ∷ l) (tokens_before ts x)

pub upto_gap : (n : ℕ) (ts : List plain.Token) → upto n ts ≡ gap n ts ++ upto n (behind_gap n ts)
upto_gap zero ts = refl
upto_gap (suc n) ts = upto-behind_trivia n ts

-- the bytes of what is laid are those of the pieces that it takes
pub laid_bytes : (z : solid.Forest) (ts : List plain.Token) → bytes (tokens_in (lossless z ts)) ≡ bytes (upto (length (solid.spell z)) ts)
laid_bytes solid.done ts = ap bytes (sym (upto-zero ts))
laid_bytes (solid.leaf kind us x) ts =
    let n : ℕ = length us in
    let token : plain.Token = record { kind = kind; text = plain.spelled (upto n (behind_gap n ts)) } in
    let rest : plain.Forest = lossless x (past n ts) in
    let all : length (solid.spell (solid.leaf kind us x)) ≡ n + length (solid.spell x) = length-append us (solid.spell x) in
    ap bytes (tokens_before (gap n ts) (leaf token rest))
    ∙ omega (
      arith,
      bytes_append (gap n ts) (token ∷ tokens_in rest),
      bytes_first token (tokens_in rest),
      laid_bytes x (past n ts),
      ap bytes (upto_gap n ts),
      bytes_append (gap n ts) (upto n (behind_gap n ts)),
      ap (λ l. bytes (upto l ts)) all,
      ap bytes (upto-add n (length (solid.spell x)) ts),
      bytes_append (upto n ts) (upto (length (solid.spell x)) (past n ts)),
    )
laid_bytes (solid.tree kind kids x) ts =
    let n : ℕ = length (solid.spell kids) in
    let below : plain.Forest = lossless kids (behind_gap n ts) in
    let rest : plain.Forest = lossless x (past n ts) in
    let all : length (solid.spell (solid.tree kind kids x)) ≡ n + length (solid.spell x) = length-append (solid.spell kids) (solid.spell x) in
    ap bytes (tokens_before (gap n ts) (branch kind below rest))
    ∙ omega (
      arith,
      bytes_append (gap n ts) (tokens_in below ++ tokens_in rest),
      bytes_append (tokens_in below) (tokens_in rest),
      laid_bytes kids (behind_gap n ts),
      laid_bytes x (past n ts),
      ap bytes (upto_gap n ts),
      bytes_append (gap n ts) (upto n (behind_gap n ts)),
      ap (λ l. bytes (upto l ts)) all,
      ap bytes (upto-add n (length (solid.spell x)) ts),
      bytes_append (upto n ts) (upto (length (solid.spell x)) (past n ts)),
    )

span_before : (at from to : ℕ) (ts : List plain.Token) (x : plain.Forest) → has_span at from to (before ts x) ≡ has_span (at + bytes ts) from to x
span_before at from to [] x = let same : at ≡ at + 0 = omega arith in ap (λ l. has_span l from to x) same
span_before at from to (t ∷ ts) x =
    let same : (at + length t.text) + bytes ts ≡ at + bytes (t ∷ ts) = omega (arith, bytes_first t ts) in
    span_before (at + length t.text) from to ts x ∙ ap (λ l. has_span l from to x) same

pub span_behind : (at from to : ℕ) (x : plain.Forest) (ts : List plain.Token) → has_span at from to (behind x ts) ≡ has_span at from to x
span_behind at from to nothing ts = span_before at from to ts nothing
span_behind at from to (leaf t x) ts = span_behind (at + length t.text) from to x ts
span_behind at from to (branch kind below x) ts =
    ap (λ b. (at == from && at + bytes (tokens_in below) == to) || (has_span at from to below || b))
    (span_behind (at + bytes (tokens_in below)) from to x ts)

pub span_leaf : (at from to : ℕ) (kind : SyntaxKind) (us : List Token) (x : solid.Forest) (ts : List plain.Token)
    → has_span at from to (lossless (solid.leaf kind us x) ts) ≡ has_span (at + bytes (upto (length us) ts)) from to (lossless x (past (length us) ts))
span_leaf at from to kind us x ts =
    let n : ℕ = length us in
    let token : plain.Token = record { kind = kind; text = plain.spelled (upto n (behind_gap n ts)) } in
    let rest : plain.Forest = lossless x (past n ts) in
    let same : (at + bytes (gap n ts)) + length token.text ≡ at + bytes (upto n ts) =
    omega (arith, ap bytes (upto_gap n ts), bytes_append (gap n ts) (upto n (behind_gap n ts))) in
    span_before at from to (gap n ts) (leaf token rest) ∙ ap (λ l. has_span l from to rest) same

-- a node that is laid: itself, what is below it, and what stands beside it
pub span_tree : (at from to : ℕ) (kind : SyntaxKind) (kids x : solid.Forest) (ts : List plain.Token) (n : ℕ) → n ≡ length (solid.spell kids)
    → has_span at from to (lossless (solid.tree kind kids x) ts)
    ≡ ((at + bytes (gap n ts) == from && at + bytes (upto n ts) == to)
    || (has_span (at + bytes (gap n ts)) from to (lossless kids (behind_gap n ts)) || has_span (at + bytes (upto n ts)) from to (lossless x (past n ts))))
span_tree at from to kind kids x ts n e =
    let m : ℕ = length (solid.spell kids) in
    let starts : ℕ = at + bytes (gap m ts) in
    let below : plain.Forest = lossless kids (behind_gap m ts) in
    let rest : plain.Forest = lossless x (past m ts) in
    let ends : starts + bytes (tokens_in below) ≡ at + bytes (upto m ts) =
    omega (arith, laid_bytes kids (behind_gap m ts), ap bytes (upto_gap m ts), bytes_append (gap m ts) (upto m (behind_gap m ts))) in
    span_before at from to (gap m ts) (branch kind below rest)
    ∙ ap (λ l. (starts == from && l == to) || (has_span starts from to below || has_span l from to rest)) ends
    ∙ ap (λ l. (at + bytes (gap l ts) == from && at + bytes (upto l ts) == to)
    || (has_span (at + bytes (gap l ts)) from to (lossless kids (behind_gap l ts)) || has_span (at + bytes (upto l ts)) from to (lossless x (past l ts)))) (sym e)
