-- The nodes at and below a node among all nodes, and its tokens among all tokens.
use Rattle.std.proofs.Common.{◌≡◌, ◌∙◌, ℕ, zero, suc, ◌+◌, ◌-◌, ◌<◌, ◌≤◌, List, [], ◌∷◌, ◌++◌, length, get_or, drop, refl, sym, ap, subst, append_assoc, append-nil, inl, inr, arith}
use Rattle.std.specs.Prelude.{Option, unwrap_or}
use Rattle.std.proofs.lemmas.Bool.{cases_lt}
use Rattle.std.proofs.lemmas.List.{drop-append-le, drop-drop, drop_at, get_or_append_left, get_or-drop}
use Rattle.std.proofs.lemmas.Option.{slice_get-get_or}
use Rattle.ssr_syntax_kinds.specs.declared.kinds.SyntaxKind.TheVariants as k
use Rattle.ssr_syntax_tree.specs.Syntax.{Forest, nothing, leaf, branch, Syntax, Token, node_count, token_count, tokens_in, tokens_of}
use Rattle.ssr_syntax_tree.specs.Places.{HasNode, HasToken, Node, node_of, nodes_in, nodes_of, root_of, size_of, token_of}
use Rattle.ssr_syntax_tree.proofs.Shared.{length-nodes_in, length-nodes_of, length-tokens_in, node_left}
use Rattle.ssr_standing.specs.Private.Runs.{below_of}

-- the node at a place among siblings and the nodes below them: behind it come those below it, and its tokens behind some others
record Stands (parent m t k : ℕ) (forest : Forest) : Type 0 where
  node : Node
  rest : List Node
  is : drop k (nodes_in parent m t forest) ≡ node ∷ (below_of node ++ rest)
  skipped : ℕ
  first : node.first ≡ t + skipped
  ends : skipped + token_count node.children ≤ token_count forest
  more : List Token
  tokens : drop skipped (tokens_in forest) ≡ tokens_in node.children ++ more

stands : (parent m t k : ℕ) (forest : Forest) → k < node_count forest → Stands parent m t k forest
stands parent m t k nothing h = absurd (omega arith)
stands parent m t k (leaf token next) h =
    let s = stands parent m (1 + t) k next h in
    record {
      node = s.node;
      rest = s.rest;
      is = s.is;
      skipped = suc s.skipped;
      first = omega (arith, s.first);
      ends = omega (arith, s.ends);
      more = s.more;
      tokens = s.tokens;
    }
stands parent m t zero (branch kind below next) h = record {
  node = record { number = m; parent = parent; first = t; kind = kind; children = below };
  rest = nodes_in parent (1 + m + node_count below) (t + token_count below) next;
  is = refl;
  skipped = 0;
  first = omega arith;
  ends = omega arith;
  more = tokens_in next;
  tokens = refl;
}
stands parent m t (suc k) (branch kind below next) h =
    let inner = nodes_in m (1 + m) t below in
    let outer = nodes_in parent (1 + m + node_count below) (t + token_count below) next in
    elim (cases_lt k (node_count below)) [
      | inl inside ↦
          let s = stands m (1 + m) t k below inside in
          record {
            node = s.node;
            rest = s.rest ++ outer;
            is =
                drop-append-le k inner outer (omega (arith, length-nodes_in m (1 + m) t below))
                ∙ ap (λ (nodes : List Node). nodes ++ outer) s.is
                ∙ ap (λ (nodes : List Node). s.node ∷ nodes) (append_assoc (below_of s.node) s.rest outer);
            skipped = s.skipped;
            first = s.first;
            ends = omega (arith, s.ends);
            more = s.more ++ tokens_in next;
            tokens =
                drop-append-le s.skipped (tokens_in below) (tokens_in next) (omega (arith, s.ends, length-tokens_in below))
                ∙ ap (λ (tokens : List Token). tokens ++ tokens_in next) s.tokens
                ∙ append_assoc (tokens_in s.node.children) s.more (tokens_in next);
          }
      | inr outside ↦
          let j = k - node_count below in
          let s = stands parent (1 + m + node_count below) (t + token_count below) j next (omega arith) in
          let whole : k ≡ node_count below + j = omega arith in
          record {
            node = s.node;
            rest = s.rest;
            is =
                ap (λ (i : ℕ). drop i (inner ++ outer)) whole
                ∙ sym (drop-drop j (node_count below) (inner ++ outer))
                ∙ ap (drop j) (drop_at inner outer (node_count below) (length-nodes_in m (1 + m) t below))
                ∙ s.is;
            skipped = token_count below + s.skipped;
            first = omega (arith, s.first);
            ends = omega (arith, s.ends);
            more = s.more;
            tokens =
                sym (drop-drop s.skipped (token_count below) (tokens_in below ++ tokens_in next))
                ∙ ap (drop s.skipped) (drop_at (tokens_in below) (tokens_in next) (token_count below) (length-tokens_in below))
                ∙ s.tokens;
          }
    ]

-- the same among all nodes and tokens of a tree
pub record IsPlaced (s : Syntax) (n : ℕ) : Type 0 where
  pub rest : List Node
  pub is : drop n (nodes_of s) ≡ node_of s n ∷ (below_of (node_of s n) ++ rest)
  pub more : List Token
  pub tokens : drop (node_of s n).first (tokens_of s) ≡ tokens_in (node_of s n).children ++ more

pub placed : (s : Syntax) (n : ℕ) → HasNode s n → IsPlaced s n
unfolding node_of
placed s zero has = record {
  rest = [];
  is = ap (λ (nodes : List Node). root_of s ∷ nodes) (sym (append-nil (below_of (root_of s))));
  more = [];
  tokens = sym (append-nil (tokens_of s));
}
placed s (suc n) has =
    let p = stands 0 1 0 n s.children (omega arith) in
    let behind : drop (suc n) (nodes_of s) ≡ p.node ∷ (below_of p.node ++ p.rest) = p.is in
    let both : node_of s (suc n) ∷ drop (suc n + 1) (nodes_of s) ≡ p.node ∷ (below_of p.node ++ p.rest) = sym (node_left s (suc n) has) ∙ behind in
    let same : p.node ≡ node_of s (suc n) = cc in
    let first : p.skipped ≡ p.node.first = omega (arith, p.first) in
    record {
      rest = p.rest;
      is = behind ∙ ap (λ (node : Node). node ∷ (below_of node ++ p.rest)) same;
      more = p.more;
      tokens =
          subst (λ (node : Node). drop node.first (tokens_of s) ≡ tokens_in node.children ++ p.more) same
          (ap (λ (i : ℕ). drop i (tokens_of s)) (sym first) ∙ p.tokens);
    }

-- what comes behind all that is below a node are the nodes from the next number on
pub behind_all : (s : Syntax) (n : ℕ) → HasNode s n → (drop n (nodes_of s) ≡ (node_of s n ∷ below_of (node_of s n)) ++ drop (n + size_of (node_of s n)) (nodes_of s))
behind_all s n has =
    let p = placed s n has in
    let node = node_of s n in
    let front : List Node = node ∷ below_of node in
    let long : length front ≡ size_of node = omega (arith, length-nodes_in node.number (1 + node.number) node.first node.children) in
    let rest : drop (n + size_of node) (nodes_of s) ≡ p.rest =
    sym (drop-drop (size_of node) n (nodes_of s)) ∙ ap (drop (size_of node)) p.is ∙ drop_at front p.rest (size_of node) long in
    p.is ∙ ap (λ (nodes : List Node). front ++ nodes) (sym rest)

-- a node by its number, and a token
node_at : (s : Syntax) (n : ℕ) (d : Node) → HasNode s n → node_of s n ≡ get_or (nodes_of s) n d
unfolding node_of
node_at s n d has = ap (λ o. unwrap_or o (root_of s)) (slice_get-get_or (nodes_of s) n d (omega (arith, has, length-nodes_of s)))

pub token_at : (s : Syntax) (t : ℕ) (d : Token) → HasToken s t → token_of s t ≡ get_or (tokens_of s) t d
unfolding token_of
token_at s t d has = ap (λ (o : Option Token). unwrap_or o (record { kind = k.WHITESPACE; text = [] })) (slice_get-get_or (tokens_of s) t d (omega (arith, has, length-tokens_in s.children)))

-- the nodes below a node have the next numbers
pub below_at : (s : Syntax) (n k : ℕ) (d : Node) → HasNode s n → HasNode s (n + (1 + k)) → k < node_count (node_of s n).children
    → get_or (below_of (node_of s n)) k d ≡ node_of s (n + (1 + k))
below_at s n k d has there within =
    let p = placed s n has in
    let node = node_of s n in
    let step : n + suc k ≡ n + (1 + k) = omega arith in
    sym (get_or_append_left (below_of node) p.rest d k (omega (arith, length-nodes_in node.number (1 + node.number) node.first node.children)))
    ∙ ap (λ (nodes : List Node). get_or nodes (suc k) d) (sym p.is)
    ∙ get_or-drop n (nodes_of s) (suc k) d
    ∙ ap (λ (i : ℕ). get_or (nodes_of s) i d) step
    ∙ sym (node_at s (n + (1 + k)) d there)

-- and its tokens have the numbers from its first one on
pub tokens_at : (s : Syntax) (n k : ℕ) (d : Token) → HasNode s n → HasToken s ((node_of s n).first + k) → k < token_count (node_of s n).children
    → get_or (tokens_in (node_of s n).children) k d ≡ token_of s ((node_of s n).first + k)
tokens_at s n k d has there within =
    let p = placed s n has in
    let node = node_of s n in
    sym (get_or_append_left (tokens_in node.children) p.more d k (omega (arith, length-tokens_in node.children)))
    ∙ ap (λ (tokens : List Token). get_or tokens k d) (sym p.tokens)
    ∙ get_or-drop node.first (tokens_of s) k d
    ∙ sym (token_at s (node.first + k) d there)
