-- Where the tokens of a node stand among those that the grammar reads.
use Rattle.std.proofs.Common.{◌≡◌, ℕ, zero, suc, ◌+◌, ◌-◌, ◌<◌, ◌≤◌, Bool, true, false, if◌then◌else◌, List, [], ◌∷◌, ◌++◌, All, length, take, slice_get, refl, sym, ap, subst, ◌∙◌, arith, append_assoc, append-nil, length-append}
use Rattle.std.specs.Prelude.{unwrap_or}
use Rattle.std.proofs.Math.Seq.{take-append_seam}
use Rattle.std.proofs.lemmas.List.{length-replicate}
use Rattle.std.proofs.lemmas.List.Elements.{All-nil, All-cons, All-append, All-get_or}
use Rattle.ssr_syntax_kinds.specs.Kinds.{is_trivia}
use Rattle.ssr_syntax_kinds.specs.declared.kinds.SyntaxKind.{SyntaxKind}
use Rattle.ssr_syntax_kinds.specs.declared.kinds.SyntaxKind.TheVariants as k
use Rattle.ssr_syntax_tree.specs.Syntax.{Forest, nothing, leaf, branch, Syntax, Token, node_count, token_count, tokens_in, tokens_of}
use Rattle.ssr_syntax_tree.specs.Places.{Node, HasNode, HasToken, node_of, nodes_in, nodes_of, root_of, token_of}
use Rattle.ssr_syntax_tree.proofs.Shared.{node_is, length-nodes_of, length-tokens_in}
use Rattle.ssr_syntax_forms.specs.declared.tokens.Token as solid
use Rattle.ssr_syntax_forms.specs.Kinds.{mem}
use Rattle.ssr_syntax_places.specs.PlainCore.{of_two, of_three, size_of_kind, solid_size, tokens_like}
use Rattle.ssr_syntax_shorts.specs.Names.{place_of}

-- ** How many tokens.

pub some_size : (kind : SyntaxKind) → 0 < size_of_kind kind
some_size kind = by_rows (mem kind of_three) (mem kind of_two) where
  by_rows : (three two : Bool) → 0 < (if three then 3 else if two then 2 else 1)
  by_rows true two = omega arith
  by_rows false true = omega arith
  by_rows false false = omega arith

pub like_length : (kind : SyntaxKind) → length (tokens_like kind) ≡ size_of_kind kind
like_length kind =
    let token : solid.Token = record { kind = kind; joined = kind; size = size_of_kind kind } in
    omega (arith, length-replicate (size_of_kind kind - 1) token, some_size kind)

pub size_append : (ts us : List Token) → solid_size (ts ++ us) ≡ solid_size ts + solid_size us
size_append [] us = omega arith
size_append (t ∷ ts) us = omega (arith, size_append ts us)

size_one : (t : Token) → is_trivia t.kind ≡ false → solid_size (t ∷ []) ≡ size_of_kind t.kind
size_one t solid = ap (λ b. (if b then 0 else size_of_kind t.kind) + 0) solid ∙ omega arith

size_grows : (ts : List Token) (a b : ℕ) → a ≤ b → solid_size (take a ts) ≤ solid_size (take b ts)
size_grows ts zero b le = omega arith
size_grows [] (suc a) b le = omega arith
size_grows (t ∷ ts) (suc a) zero le = absurd (omega arith)
size_grows (t ∷ ts) (suc a) (suc b) le = omega (arith, size_grows ts a b (omega arith))

pub place_grows : (s : Syntax) (a b : ℕ) → a ≤ b → place_of s a ≤ place_of s b
place_grows s a b le = size_grows (tokens_of s) a b le

-- ** Siblings, with the tokens in front of them and behind them.

pub record Lies (s : Syntax) (t : ℕ) (z : Forest) : Type 0 where
  pub before : List Token
  pub after : List Token
  pub tokens : tokens_of s ≡ before ++ (tokens_in z ++ after)
  pub count : length before ≡ t

pub lies_top : (s : Syntax) → Lies s 0 s.children
lies_top s = record { before = []; after = []; tokens = sym (append-nil (tokens_in s.children)); count = refl }

pub lies_leaf : (s : Syntax) (t : ℕ) (token : Token) (next : Forest) → Lies s t (leaf token next) → Lies s (1 + t) next
lies_leaf s t token next lies =
    let count = lies.count in
    record {
      before = lies.before ++ token ∷ [];
      after = lies.after;
      tokens = lies.tokens ∙ sym (append_assoc lies.before (token ∷ []) (tokens_in next ++ lies.after));
      count = omega (arith, length-append lies.before (token ∷ []), count);
    }

pub lies_below : (s : Syntax) (t : ℕ) (kind : SyntaxKind) (below next : Forest) → Lies s t (branch kind below next) → Lies s t below
lies_below s t kind below next lies = record {
  before = lies.before;
  after = tokens_in next ++ lies.after;
  tokens = lies.tokens ∙ ap (λ l. lies.before ++ l) (append_assoc (tokens_in below) (tokens_in next) lies.after);
  count = lies.count;
}

pub lies_next : (s : Syntax) (t : ℕ) (kind : SyntaxKind) (below next : Forest) → Lies s t (branch kind below next)
    → Lies s (t + token_count below) next
lies_next s t kind below next lies =
    let count = lies.count in
    record {
      before = lies.before ++ tokens_in below;
      after = lies.after;
      tokens = lies.tokens ∙ ap (λ l. lies.before ++ l) (append_assoc (tokens_in below) (tokens_in next) lies.after)
          ∙ sym (append_assoc lies.before (tokens_in below) (tokens_in next ++ lies.after));
      count = omega (arith, length-append lies.before (tokens_in below), length-tokens_in below, count);
    }

pub place_lies : (s : Syntax) (t : ℕ) (z : Forest) (lies : Lies s t z) → place_of s t ≡ solid_size lies.before
place_lies s t z lies =
    ap (λ n. solid_size (take n (tokens_of s))) (sym lies.count)
    ∙ ap (λ ts. solid_size (take (length lies.before) ts)) lies.tokens
    ∙ ap solid_size (take-append_seam lies.before (tokens_in z ++ lies.after))

pub place_leaf : (s : Syntax) (t : ℕ) (token : Token) (next : Forest) → Lies s t (leaf token next)
    → place_of s (1 + t) ≡ place_of s t + solid_size (token ∷ [])
unfolding lies_leaf
place_leaf s t token next lies =
    let behind = place_lies s (1 + t) next (lies_leaf s t token next lies) in
    let here = place_lies s t (leaf token next) lies in
    behind ∙ size_append lies.before (token ∷ []) ∙ ap (λ n. n + solid_size (token ∷ [])) (sym here)

pub place_next : (s : Syntax) (t : ℕ) (kind : SyntaxKind) (below next : Forest) → Lies s t (branch kind below next)
    → place_of s (t + token_count below) ≡ place_of s t + solid_size (tokens_in below)
unfolding lies_next
place_next s t kind below next lies =
    let behind = place_lies s (t + token_count below) next (lies_next s t kind below next lies) in
    let here = place_lies s t (branch kind below next) lies in
    behind ∙ size_append lies.before (tokens_in below) ∙ ap (λ n. n + solid_size (tokens_in below)) (sym here)

-- ** Nodes.

abbrev OwnLies : Syntax → Node → Type 0
OwnLies s node = Lies s node.first node.children

nodes_lie : (s : Syntax) (parent m t : ℕ) (z : Forest) → Lies s t z → All (OwnLies s) (nodes_in parent m t z)
nodes_lie s parent m t nothing lies = All-nil (OwnLies s)
nodes_lie s parent m t (leaf token next) lies = nodes_lie s parent m (1 + t) next (lies_leaf s t token next lies)
nodes_lie s parent m t (branch kind below next) lies =
    let inner = lies_below s t kind below next lies in
    All-cons (OwnLies s) _ _ inner
    (All-append (OwnLies s) _ _ (nodes_lie s m (1 + m) t below inner)
    (nodes_lie s parent (1 + m + node_count below) (t + token_count below) next (lies_next s t kind below next lies)))

pub node_lies : (s : Syntax) (n : ℕ) → HasNode s n → Lies s (node_of s n).first (node_of s n).children
node_lies s n has =
    subst (OwnLies s) (sym (node_is s n has))
    (All-get_or (OwnLies s) (nodes_of s) n (root_of s) (omega (arith, has, length-nodes_of s))
    (All-cons (OwnLies s) (root_of s) (nodes_in 0 1 0 s.children) (lies_top s) (nodes_lie s 0 1 0 s.children (lies_top s))))

-- ** One token.

token_at : (xs ys : List Token) (x : Token) (t : ℕ) (none : Token) → length xs ≡ t → unwrap_or (slice_get (xs ++ x ∷ ys) t) none ≡ x
token_at [] ys x zero none e = refl
token_at [] ys x (suc t) none e = absurd (omega (arith, e))
token_at (y ∷ xs) ys x zero none e = absurd (omega (arith, e))
token_at (y ∷ xs) ys x (suc t) none e = token_at xs ys x t none (omega (arith, e))

-- the only token of siblings
pub only_token : (s : Syntax) (t : ℕ) (z : Forest) → Lies s t z → token_count z ≡ 1 → tokens_in z ≡ token_of s t ∷ []
unfolding token_of
only_token s t z lies one = by_list (tokens_in z) refl where
  by_list : (ts : List Token) → tokens_in z ≡ ts → tokens_in z ≡ token_of s t ∷ []
  by_list [] are = absurd (omega (arith, ap length are, length-tokens_in z, one))
  by_list (x ∷ y ∷ ts) are = absurd (omega (arith, ap length are, length-tokens_in z, one))
  by_list (x ∷ []) are =
      are
      ∙ ap (λ token. token ∷ [])
      (sym (ap (λ ts. unwrap_or (slice_get ts t) (record { kind = k.WHITESPACE; text = [] })) (lies.tokens ∙ ap (λ ts. lies.before ++ (ts ++ lies.after)) are)
      ∙ token_at lies.before lies.after x t (record { kind = k.WHITESPACE; text = [] }) lies.count))

size_step : (ts : List Token) (t : ℕ) (none : Token) → t < length ts
    → solid_size (take (suc t) ts) ≡ solid_size (take t ts) + solid_size (unwrap_or (slice_get ts t) none ∷ [])
size_step [] t none h = absurd (omega arith)
size_step (x ∷ ts) zero none h = omega arith
size_step (x ∷ ts) (suc t) none h = omega (arith, size_step ts t none (omega arith))

-- the place behind a solid token
pub place_step : (s : Syntax) (t : ℕ) → HasToken s t → is_trivia (token_of s t).kind ≡ false
    → place_of s (1 + t) ≡ place_of s t + size_of_kind (token_of s t).kind
unfolding token_of
place_step s t has solid =
    ap (place_of s) (let e : 1 + t ≡ suc t = omega arith in e)
    ∙ size_step (tokens_of s) t (record { kind = k.WHITESPACE; text = [] }) (omega (arith, has, length-tokens_in s.children))
    ∙ ap (λ n. place_of s t + n) (size_one (token_of s t) solid)
