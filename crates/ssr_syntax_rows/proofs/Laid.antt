-- Laws of the lossless tree: its tokens are those that were taken, laid over the text's, and the rows of its nodes.
use Rattle.std.proofs.Common.{◌≡◌, ℕ, zero, suc, ◌+◌, ◌<◌, Bool, true, false, if◌then◌else◌, List, [], ◌∷◌, ◌++◌, length, map, refl, sym, ◌∙◌, ap, subst, arith, append_assoc, length-append}
use Rattle.std.specs.Prelude.{⊤, max}
use Rattle.std.proofs.lemmas.List.{append-nil, map-append}
use Rattle.ssr_syntax_kinds.specs.declared.kinds.SyntaxKind.{SyntaxKind}
use Rattle.ssr_syntax_kinds.specs.Kinds.{is_trivia}
use Rattle.ssr_syntax_tree.specs.declared.rows.NodeRow.{NodeRow}
use Rattle.ssr_syntax_tree.specs.Syntax as plain
use Rattle.ssr_syntax_tree.specs.Places.{nodes_in}
use Rattle.ssr_syntax_tree.specs.Parts.{node_row}
use Rattle.ssr_syntax_rows.specs.Leaves.{Taken, after, first_in, past_in}
use Rattle.ssr_syntax_forms.specs.Places as place
use Rattle.ssr_syntax_forms.specs.Places.{leading, behind_solid, Place, behind_token}
use Rattle.ssr_syntax_forms.specs.Trees as solid
use Rattle.ssr_syntax_rows.specs.Leaves as written
use Rattle.ssr_syntax_rows.specs.Lossless.{trivia, behind_trivia, gap, behind_gap, upto, past, before, behind, lossless}
use Rattle.ssr_syntax_rows.specs.Preorder.{node_rows}

-- ** Tokens beside siblings.

tokens-before : (ts : List plain.Token) (x : plain.Forest) → plain.tokens_in (before ts x) ≡ ts ++ plain.tokens_in x
tokens-before [] x = refl
tokens-before (t ∷ ts) x = ap (λ l. t ∷ l) (tokens-before ts x)

pub tokens-behind : (x : plain.Forest) (ts : List plain.Token) → plain.tokens_in (behind x ts) ≡ plain.tokens_in x ++ ts
tokens-behind plain.nothing ts = tokens-before ts plain.nothing ∙ append-nil ts
tokens-behind (plain.leaf t x) ts = ap (λ l. t ∷ l) (tokens-behind x ts)
tokens-behind (plain.branch kind below x) ts =
    ap (λ l. plain.tokens_in below ++ l) (tokens-behind x ts) ∙ sym (append_assoc (plain.tokens_in below) (plain.tokens_in x) ts)

count-before : (ts : List plain.Token) (x : plain.Forest) → plain.node_count (before ts x) ≡ plain.node_count x
count-before [] x = refl
count-before (t ∷ ts) x = count-before ts x

pub count-behind : (x : plain.Forest) (ts : List plain.Token) → plain.node_count (behind x ts) ≡ plain.node_count x
count-behind plain.nothing ts = count-before ts plain.nothing
count-behind (plain.leaf t x) ts = count-behind x ts
count-behind (plain.branch kind below x) ts = ap (λ n. 1 + (plain.node_count below + n)) (count-behind x ts)

height-before : (ts : List plain.Token) (x : plain.Forest) → plain.height (before ts x) ≡ plain.height x
height-before [] x = refl
height-before (t ∷ ts) x = height-before ts x

pub height-behind : (x : plain.Forest) (ts : List plain.Token) → plain.height (behind x ts) ≡ plain.height x
height-behind plain.nothing ts = height-before ts plain.nothing
height-behind (plain.leaf t x) ts = height-behind x ts
height-behind (plain.branch kind below x) ts = ap (λ n. max (1 + plain.height below) n) (height-behind x ts)

nodes-before : (parent m t : ℕ) (ts : List plain.Token) (x : plain.Forest) → nodes_in parent m t (before ts x) ≡ nodes_in parent m (t + length ts) x
nodes-before parent m t [] x = ap (λ n. nodes_in parent m n x) (omega arith)
nodes-before parent m t (u ∷ ts) x = nodes-before parent m (1 + t) ts x ∙ ap (λ n. nodes_in parent m n x) (omega arith)

pub nodes-behind : (parent m t : ℕ) (x : plain.Forest) (ts : List plain.Token) → nodes_in parent m t (behind x ts) ≡ nodes_in parent m t x
nodes-behind parent m t plain.nothing ts = nodes-before parent m t ts plain.nothing
nodes-behind parent m t (plain.leaf u x) ts = nodes-behind parent m (1 + t) x ts
nodes-behind parent m t (plain.branch kind below x) ts =
    ap (λ l. record { number = m; parent = parent; first = t; kind = kind; children = below } ∷ (nodes_in m (1 + m) t below ++ l))
    (nodes-behind parent (1 + m + plain.node_count below) (t + plain.token_count below) x ts)

pub token_count-tokens : (x : plain.Forest) → plain.token_count x ≡ length (plain.tokens_in x)
token_count-tokens plain.nothing = refl
token_count-tokens (plain.leaf t x) = omega (arith, token_count-tokens x)
token_count-tokens (plain.branch kind below x) =
    omega (arith, token_count-tokens below, token_count-tokens x, length-append (plain.tokens_in below) (plain.tokens_in x))

-- ** Up to a solid token, and past it.

pub upto-past : (n : ℕ) (ts : List plain.Token) → upto n ts ++ past n ts ≡ ts
upto-past n [] = refl
upto-past zero (t ∷ ts) = refl
upto-past (suc n) (t ∷ ts) = ap (λ l. t ∷ l) (upto-past (if is_trivia t.kind then suc n else n) ts)

pub upto-zero : (ts : List plain.Token) → upto zero ts ≡ []
upto-zero [] = refl
upto-zero (t ∷ ts) = refl

pub past-zero : (ts : List plain.Token) → past zero ts ≡ ts
past-zero [] = refl
past-zero (t ∷ ts) = refl

pub upto-add : (n k : ℕ) (ts : List plain.Token) → upto (n + k) ts ≡ upto n ts ++ upto k (past n ts)
upto-add n k [] = refl
upto-add zero k (t ∷ ts) = ap (λ n. upto n (t ∷ ts)) (omega arith)
upto-add (suc n) k (t ∷ ts) =
    let e : suc n + k ≡ suc (n + k) = omega arith in
    ap (λ m. upto m (t ∷ ts)) e
    ∙ ap (λ l. t ∷ l)
    (elim (is_trivia t.kind)
    as (λ b. upto (if b then suc (n + k) else n + k) ts ≡ upto (if b then suc n else n) ts ++ upto k (past (if b then suc n else n) ts))
    [ true ↦ ap (λ m. upto m ts) (sym e) ∙ upto-add (suc n) k ts | false ↦ upto-add n k ts ])

-- What holds in both cases of a token.
pub by_kind : (P : Bool → Type 0) (t : plain.Token) → (is_trivia t.kind ≡ true → P true) → (is_trivia t.kind ≡ false → P false) → P (is_trivia t.kind)
by_kind P t yes_case no_case =
    elim (is_trivia t.kind) as (λ b. is_trivia t.kind ≡ b → P b) [ true ↦ yes_case | false ↦ no_case ] refl

pub upto-behind_trivia : (n : ℕ) (ts : List plain.Token) → upto (suc n) ts ≡ trivia ts ++ upto (suc n) (behind_trivia ts)
upto-behind_trivia n [] = refl
upto-behind_trivia n (t ∷ ts) =
    by_kind (λ b. t ∷ upto (if b then suc n else n) ts ≡ (if b then t ∷ trivia ts else []) ++ upto (suc n) (if b then behind_trivia ts else t ∷ ts)) t
    (λ e. ap (λ l. t ∷ l) (upto-behind_trivia n ts))
    (λ e. ap (λ b. t ∷ upto (if b then suc n else n) ts) (sym e))

pub upto-behind_gap : (n : ℕ) (ts : List plain.Token) → upto n ts ≡ gap n ts ++ upto n (behind_gap n ts)
upto-behind_gap zero ts = refl
upto-behind_gap (suc n) ts = upto-behind_trivia n ts

pub past-add : (n k : ℕ) (ts : List plain.Token) → past (n + k) ts ≡ past k (past n ts)
past-add n k [] = refl
past-add zero k (t ∷ ts) = ap (λ n. past n (t ∷ ts)) (omega arith)
past-add (suc n) k (t ∷ ts) =
    let e : suc n + k ≡ suc (n + k) = omega arith in
    ap (λ m. past m (t ∷ ts)) e
    ∙ (elim (is_trivia t.kind)
    as (λ b. past (if b then suc (n + k) else n + k) ts ≡ past k (past (if b then suc n else n) ts))
    [ true ↦ ap (λ m. past m ts) (sym e) ∙ past-add (suc n) k ts | false ↦ past-add n k ts ])

-- behind white space and comments there are none
pub trivia-behind : (ts : List plain.Token) → trivia (behind_trivia ts) ≡ []
trivia-behind [] = refl
trivia-behind (t ∷ ts) =
    by_kind (λ b. trivia (if b then behind_trivia ts else t ∷ ts) ≡ []) t (λ e. trivia-behind ts)
    (λ e. ap (λ b. if b then t ∷ trivia ts else []) e)

behind-behind : (ts : List plain.Token) → behind_trivia (behind_trivia ts) ≡ behind_trivia ts
behind-behind [] = refl
behind-behind (t ∷ ts) =
    by_kind (λ b. behind_trivia (if b then behind_trivia ts else t ∷ ts) ≡ (if b then behind_trivia ts else t ∷ ts)) t
    (λ e. behind-behind ts)
    (λ e. ap (λ b. if b then behind_trivia ts else t ∷ ts) e)

past-behind_trivia : (n : ℕ) (ts : List plain.Token) → past (suc n) (behind_trivia ts) ≡ past (suc n) ts
past-behind_trivia n [] = refl
past-behind_trivia n (t ∷ ts) =
    by_kind (λ b. past (suc n) (if b then behind_trivia ts else t ∷ ts) ≡ past (if b then suc n else n) ts) t
    (λ e. past-behind_trivia n ts)
    (λ e. ap (λ b. past (if b then suc n else n) ts) e)

past-behind_gap : (n : ℕ) (ts : List plain.Token) → past n (behind_gap n ts) ≡ past n ts
past-behind_gap zero ts = refl
past-behind_gap (suc n) ts = past-behind_trivia n ts

-- ** What is taken of the text's tokens.

-- each stands for some solid tokens, and is no white space and no comment
abbrev pub AreSolid : List Taken → Type 0
AreSolid [] = ⊤
AreSolid (u ∷ us) = (0 < u.size) × (is_trivia u.kind ≡ false) × AreSolid us

-- how many solid tokens they stand for
abbrev pub total : List Taken → ℕ
total [] = 0
total (u ∷ us) = u.size + total us

-- the token of the tree that the first one is
abbrev pub token_of : Taken → List plain.Token → plain.Token
token_of u ts = record { kind = u.kind; text = plain.spelled (upto u.size (behind_gap u.size ts)) }

-- the tokens of the tree up to the last one of them
abbrev pub laid : List Taken → List plain.Token → List plain.Token
laid [] ts = []
laid (u ∷ us) ts = gap u.size ts ++ (token_of u ts ∷ laid us (past u.size ts))

-- and all others behind them
abbrev pub all_laid : List Taken → List plain.Token → List plain.Token
all_laid us ts = laid us ts ++ past (total us) ts

pub total-leaves : (f : solid.Forest) → total (written.leaves f) ≡ length (solid.spell f)
total-leaves solid.done = refl
total-leaves (solid.leaf kind tokens x) = omega (arith, total-leaves x, length-append tokens (solid.spell x))
total-leaves (solid.tree kind kids x) =
    omega (
      arith,
      total-append (written.leaves kids) (written.leaves x),
      total-leaves kids,
      total-leaves x,
      length-append (solid.spell kids) (solid.spell x),
    ) where
      total-append : (us vs : List Taken) → total (us ++ vs) ≡ total us + total vs
      total-append [] vs = omega arith
      total-append (u ∷ us) vs = omega (arith, total-append us vs)

pub solid-append : (us vs : List Taken) → AreSolid (us ++ vs) → AreSolid us × AreSolid vs
solid-append [] vs h = (tt, h)
solid-append (u ∷ us) vs h = let r = solid-append us vs h.2 in ((h.0, h.1, r.0), r.1)

pub laid-append : (us vs : List Taken) (ts : List plain.Token) → laid (us ++ vs) ts ≡ laid us ts ++ laid vs (past (total us) ts)
laid-append [] vs ts = ap (laid vs) (sym (past-zero ts))
laid-append (u ∷ us) vs ts =
    ap (λ l. gap u.size ts ++ (token_of u ts ∷ l))
    (laid-append us vs (past u.size ts)
    ∙ ap (λ l. laid us (past u.size ts) ++ laid vs l) (sym (past-add u.size (total us) ts)))
    ∙ sym (append_assoc (gap u.size ts) (token_of u ts ∷ laid us (past u.size ts)) (laid vs (past (u.size + total us) ts)))

-- ** White space and comments in front of what is taken.

gap_some : (n : ℕ) (ts : List plain.Token) → 0 < n → gap n ts ≡ trivia ts
gap_some zero ts h = absurd (omega arith)
gap_some (suc n) ts h = refl

behind_some : (n : ℕ) (ts : List plain.Token) → 0 < n → behind_gap n ts ≡ behind_trivia ts
behind_some zero ts h = absurd (omega arith)
behind_some (suc n) ts h = refl

-- behind them, what is taken first begins at once
pub gap-behind : (n m : ℕ) (ts : List plain.Token) → 0 < n → 0 < m → gap n (behind_gap m ts) ≡ []
gap-behind n m ts lt more = gap_some n (behind_gap m ts) lt ∙ ap trivia (behind_some m ts more) ∙ trivia-behind ts

behind-gap : (n m : ℕ) (ts : List plain.Token) → 0 < n → 0 < m → behind_gap n (behind_gap m ts) ≡ behind_gap n ts
behind-gap n m ts lt more =
    behind_some n (behind_gap m ts) lt ∙ ap behind_trivia (behind_some m ts more) ∙ behind-behind ts ∙ sym (behind_some n ts lt)

past-gap : (n m : ℕ) (ts : List plain.Token) → 0 < n → 0 < m → past n (behind_gap m ts) ≡ past n ts
past-gap n m ts lt more =
    ap (past n) (behind_some m ts more ∙ sym (behind_some n ts lt)) ∙ past-behind_gap n ts

gap_same : (n m : ℕ) (ts : List plain.Token) → 0 < n → 0 < m → gap n ts ≡ gap m ts
gap_same n m ts lt more = gap_some n ts lt ∙ sym (gap_some m ts more)

-- the first ones of a node, with as many solid tokens as are below it
pub laid-gap : (n : ℕ) (us : List Taken) (ts : List plain.Token) → AreSolid us → n ≡ total us
    → laid us ts ≡ gap n ts ++ laid us (behind_gap n ts)
laid-gap zero [] ts h e = refl
laid-gap (suc n) [] ts h e = absurd (omega arith)
laid-gap n (u ∷ us) ts h e =
    let lt : 0 < n = omega (arith, h.0) in
    let here : List plain.Token → List plain.Token → List plain.Token = λ b p.
    record { kind = u.kind; text = plain.spelled (upto u.size b) } ∷ laid us p in
    ap (λ g. g ++ here (behind_gap u.size ts) (past u.size ts)) (gap_same u.size n ts h.0 lt)
    ∙ ap (λ b. gap n ts ++ here b (past u.size ts)) (sym (behind-gap u.size n ts h.0 lt))
    ∙ ap (λ p. gap n ts ++ here (behind_gap u.size (behind_gap n ts)) p) (sym (past-gap u.size n ts h.0 lt))
    ∙ ap (λ g. gap n ts ++ (g ++ here (behind_gap u.size (behind_gap n ts)) (past u.size (behind_gap n ts)))) (sym (gap-behind u.size n ts h.0 lt))

pub tokens-lossless : (f : solid.Forest) (ts : List plain.Token) → AreSolid (written.leaves f)
    → plain.tokens_in (lossless f ts) ≡ laid (written.leaves f) ts
tokens-lossless solid.done ts h = refl
tokens-lossless (solid.leaf kind tokens x) ts h =
    let n = length tokens in
    let token : plain.Token = record { kind = kind; text = plain.spelled (upto n (behind_gap n ts)) } in
    tokens-before (gap n ts) (plain.leaf token (lossless x (past n ts)))
    ∙ ap (λ l. gap n ts ++ (token ∷ l)) (tokens-lossless x (past n ts) h.2)
tokens-lossless (solid.tree kind kids x) ts h =
    let n = length (solid.spell kids) in
    let us = written.leaves kids in
    let parts = solid-append us (written.leaves x) h in
    let count : n ≡ total us = sym (total-leaves kids) in
    tokens-before (gap n ts) (plain.branch kind (lossless kids (behind_gap n ts)) (lossless x (past n ts)))
    ∙ ap (λ l. gap n ts ++ (l ++ plain.tokens_in (lossless x (past n ts)))) (tokens-lossless kids (behind_gap n ts) parts.0)
    ∙ ap (λ l. gap n ts ++ (laid us (behind_gap n ts) ++ l)) (tokens-lossless x (past n ts) parts.1)
    ∙ sym (append_assoc (gap n ts) (laid us (behind_gap n ts)) (laid (written.leaves x) (past n ts)))
    ∙ ap (λ l. l ++ laid (written.leaves x) (past n ts)) (sym (laid-gap n us ts parts.0 count))
    ∙ ap (λ m. laid us ts ++ laid (written.leaves x) (past m ts)) count
    ∙ sym (laid-append us (written.leaves x) ts)

-- what was taken spells what the text's tokens spell
spelled-append : (ss ts : List plain.Token) → plain.spelled (ss ++ ts) ≡ plain.spelled ss ++ plain.spelled ts
spelled-append [] ts = refl
spelled-append (s ∷ ss) ts = ap (λ l. s.text ++ l) (spelled-append ss ts) ∙ sym (append_assoc s.text (plain.spelled ss) (plain.spelled ts))

pub spelled-laid : (us : List Taken) (ts : List plain.Token) → plain.spelled (all_laid us ts) ≡ plain.spelled ts
spelled-laid [] ts = ap plain.spelled (past-zero ts)
spelled-laid (u ∷ us) ts =
    let n = u.size in
    let text : List ℕ = plain.spelled (upto n (behind_gap n ts)) in
    let rest = laid us (past n ts) in
    let rest_same : plain.spelled (rest ++ past (n + total us) ts) ≡ plain.spelled (past n ts) =
    ap (λ l. plain.spelled (rest ++ l)) (past-add n (total us) ts) ∙ spelled-laid us (past n ts) in
    let here : plain.spelled (upto n ts) ≡ plain.spelled (gap n ts) ++ text =
    ap plain.spelled (upto-behind_gap n ts) ∙ spelled-append (gap n ts) (upto n (behind_gap n ts)) in
    ap plain.spelled (append_assoc (gap n ts) (token_of u ts ∷ rest) (past (n + total us) ts))
    ∙ spelled-append (gap n ts) (token_of u ts ∷ (rest ++ past (n + total us) ts))
    ∙ ap (λ l. plain.spelled (gap n ts) ++ (text ++ l)) rest_same
    ∙ sym (append_assoc (plain.spelled (gap n ts)) text (plain.spelled (past n ts)))
    ∙ ap (λ l. l ++ plain.spelled (past n ts)) (sym here)
    ∙ sym (spelled-append (upto n ts) (past n ts))
    ∙ ap plain.spelled (upto-past n ts)

pub count-lossless : (f : solid.Forest) (ts : List plain.Token) → plain.node_count (lossless f ts) ≡ solid.nodes f
count-lossless solid.done ts = refl
count-lossless (solid.leaf kind tokens x) ts =
    count-before (gap (length tokens) ts) _ ∙ count-lossless x (past (length tokens) ts)
count-lossless (solid.tree kind kids x) ts =
    let n = length (solid.spell kids) in
    count-before (gap n ts) _
    ∙ omega (arith, count-lossless kids (behind_gap n ts), count-lossless x (past n ts))

pub height-lossless : (f : solid.Forest) (ts : List plain.Token) → plain.height (lossless f ts) ≡ solid.height f
height-lossless solid.done ts = refl
height-lossless (solid.leaf kind tokens x) ts =
    height-before (gap (length tokens) ts) _ ∙ height-lossless x (past (length tokens) ts)
height-lossless (solid.tree kind kids x) ts =
    let n = length (solid.spell kids) in
    height-before (gap n ts) _
    ∙ omega (arith, height-lossless kids (behind_gap n ts), height-lossless x (past n ts))

-- ** The kinds of tokens.

abbrev pub kinds_of : List plain.Token → List SyntaxKind
kinds_of ts = map (λ t. t.kind) ts

pub leading-kinds : (ts : List plain.Token) → leading (kinds_of ts) ≡ length (trivia ts)
leading-kinds [] = refl
leading-kinds (t ∷ ts) =
    elim (is_trivia t.kind) as (λ b. (if b then 1 + leading (kinds_of ts) else 0) ≡ length (if b then t ∷ trivia ts else []))
    [ true ↦ omega (arith, leading-kinds ts) | false ↦ refl ]

pub behind-kinds : (ts : List plain.Token) → place.behind_trivia (kinds_of ts) ≡ kinds_of (behind_trivia ts)
behind-kinds [] = refl
behind-kinds (t ∷ ts) =
    elim (is_trivia t.kind)
    as (λ b. (if b then place.behind_trivia (kinds_of ts) else t.kind ∷ kinds_of ts) ≡ kinds_of (if b then behind_trivia ts else t ∷ ts))
    [ true ↦ behind-kinds ts | false ↦ refl ]

pub past-kinds : (n : ℕ) (ts : List plain.Token) → behind_solid n (kinds_of ts) ≡ kinds_of (past n ts)
past-kinds n [] = refl
past-kinds zero (t ∷ ts) = refl
past-kinds (suc n) (t ∷ ts) = past-kinds (if is_trivia t.kind then suc n else n) ts

-- ** Where nodes stand. The parser is at p, and t of the tree's tokens are to the left of ts: those of the parser, but that
-- the innermost node may begin later, at the token `low`.
pub record At (p : Place) (t low : ℕ) (ts : List plain.Token) : Type 0 where
  pub next : p.next ≡ t + length (trivia ts)
  pub kinds : p.kinds ≡ kinds_of (behind_trivia ts)
  pub here : t ≡ max p.end low

at_same : (p : Place) (t t' low : ℕ) (ts ts' : List plain.Token) → t ≡ t' → ts ≡ ts' → At p t low ts → At p t' low ts'
at_same p t t' low ts ts' e f h = subst (λ n. At p n low ts') e (subst (At p t low) f h)

-- behind a token
at_token : (n : ℕ) (p : Place) (t low : ℕ) (ts : List plain.Token) → 0 < n → At p t low ts
    → At (behind_token n p) (t + length (gap n ts) + 1) low (past n ts)
at_token zero p t low ts lt h = absurd (omega arith)
at_token (suc n) p t low ts lt h =
    let left : behind_solid (suc n) p.kinds ≡ kinds_of (past (suc n) ts) =
    ap (behind_solid (suc n)) h.kinds ∙ past-kinds (suc n) (behind_trivia ts) ∙ ap kinds_of (past-behind_trivia n ts) in
    record {
      next = omega (arith, h.next, ap leading left, leading-kinds (past (suc n) ts));
      kinds = ap place.behind_trivia left ∙ behind-kinds (past (suc n) ts);
      here = omega (arith, h.next, h.here);
    }

-- behind some of them
at_after : (us : List Taken) (p : Place) (t low : ℕ) (ts : List plain.Token) → AreSolid us → At p t low ts
    → At (after us p) (t + length (laid us ts)) low (past (total us) ts)
at_after [] p t low ts s h = at_same p t (t + 0) low ts (past 0 ts) (omega arith) (sym (past-zero ts)) h
at_after (u ∷ us) p t low ts s h =
    let n = u.size in
    let next : ℕ = t + length (gap n ts) + 1 in
    at_same (after us (behind_token n p)) (next + length (laid us (past n ts))) (t + length (laid (u ∷ us) ts)) low
    (past (total us) (past n ts)) (past (n + total us) ts)
    (omega (arith, length-append (gap n ts) (token_of u ts ∷ laid us (past n ts))))
    (sym (past-add n (total us) ts))
    (at_after us (behind_token n p) next low (past n ts) s.2 (at_token n p t low ts s.0 h))

-- What is below a node with n solid tokens, which stands there.
record Inside (p : Place) (t low n : ℕ) (us : List Taken) (ts : List plain.Token) : Type 0 where
  pub first : t + length (gap n ts) ≡ max (first_in us p) low
  pub last : t + length (gap n ts) + length (laid us (behind_gap n ts)) ≡ max (past_in us p) low
  pub inside : At p (t + length (gap n ts)) (max (first_in us p) low) (behind_gap n ts)
  pub next : At (after us p) (t + length (gap n ts) + length (laid us (behind_gap n ts))) low (past n ts)

inside_of : (p : Place) (t low n : ℕ) (us : List Taken) (ts : List plain.Token) → AreSolid us → n ≡ total us → At p t low ts
    → Inside p t low n us ts
inside_of p t low zero [] ts s e h = record {
  first = omega (arith, h.next, h.here);
  last = omega (arith, h.here);
  inside = record { next = omega (arith, h.next); kinds = h.kinds; here = omega (arith, h.next, h.here) };
  next = at_same p t (t + 0 + 0) low ts (past 0 ts) (omega arith) (sym (past-zero ts)) h;
}
inside_of p t low (suc n) [] ts s e h = absurd (omega arith)
inside_of p t low zero (u ∷ us) ts s e h = absurd (omega (arith, s.0))
inside_of p t low (suc n) (u ∷ us) ts s e h =
    let b = behind_gap (suc n) ts in
    let all : length (laid (u ∷ us) ts) ≡ length (gap (suc n) ts) + length (laid (u ∷ us) b) =
    ap length (laid-gap (suc n) (u ∷ us) ts s e) ∙ length-append (gap (suc n) ts) (laid (u ∷ us) b) in
    let some : length (laid (u ∷ us) b) ≡ length (gap u.size b) + (1 + length (laid us (past u.size b))) =
    omega (arith, length-append (gap u.size b) (token_of u b ∷ laid us (past u.size b))) in
    let behind = at_after (u ∷ us) p t low ts s h in
    let none : length (trivia b) ≡ 0 = ap length (trivia-behind ts) in
    record {
      first = omega (arith, h.next, h.here, all, some, behind.here);
      last = omega (arith, h.here, all, some, behind.here);
      inside = record {
        next = omega (arith, h.next, none);
        kinds = h.kinds ∙ ap kinds_of (sym (behind-behind ts));
        here = omega (arith, h.next, h.here, all, some, behind.here);
      };
      next = at_same (after (u ∷ us) p) (t + length (laid (u ∷ us) ts)) (t + length (gap (suc n) ts) + length (laid (u ∷ us) b)) low
          (past (total (u ∷ us)) ts) (past (suc n) ts) (omega (arith, all)) (ap (λ m. past m ts) (sym e)) behind;
    }

the_node_row : (parent m t : ℕ) (kind : SyntaxKind) (below : plain.Forest) (first past below_count : ℕ)
    → t ≡ first → t + plain.token_count below ≡ past → plain.node_count below ≡ below_count
    → node_row (record { number = m; parent = parent; first = t; kind = kind; children = below })
    ≡ record { kind = kind; parent = parent; first = first; past = past; below = below_count }
the_node_row parent m t kind below first past below_count e f g =
    let row : ℕ → ℕ → ℕ → NodeRow = λ a b c. record { kind = kind; parent = parent; first = a; past = b; below = c } in
    ap (λ a. row a (t + plain.token_count below) (plain.node_count below)) e
    ∙ ap (λ b. row first b (plain.node_count below)) f
    ∙ ap (row first past) g

pub rows-lossless : (parent m t low : ℕ) (p : Place) (f : solid.Forest) (ts : List plain.Token) → AreSolid (written.leaves f) → At p t low ts
    → map node_row (nodes_in parent m t (lossless f ts)) ≡ node_rows parent low m p f
rows-lossless parent m t low p solid.done ts s h = refl
rows-lossless parent m t low p (solid.leaf kind tokens x) ts s h =
    let n = length tokens in
    let token : plain.Token = record { kind = kind; text = plain.spelled (upto n (behind_gap n ts)) } in
    let next : ℕ = t + length (gap n ts) + 1 in
    ap (map node_row) (nodes-before parent m t (gap n ts) (plain.leaf token (lossless x (past n ts))))
    ∙ ap (λ k. map node_row (nodes_in parent m k (lossless x (past n ts)))) (omega arith)
    ∙ rows-lossless parent m next low (behind_token n p) x (past n ts) s.2 (at_token n p t low ts s.0 h)
rows-lossless parent m t low p (solid.tree kind kids x) ts s h =
    let us = written.leaves kids in
    let n = length (solid.spell kids) in
    let count : n ≡ total us = sym (total-leaves kids) in
    let inner : ℕ = t + length (gap n ts) in
    let first : ℕ = max (first_in us p) low in
    let are = solid-append us (written.leaves x) s in
    let facts = inside_of p t low n us ts are.0 count h in
    let below : plain.Forest = lossless kids (behind_gap n ts) in
    let tokens : plain.token_count below ≡ length (laid us (behind_gap n ts)) =
    token_count-tokens below ∙ ap length (tokens-lossless kids (behind_gap n ts) are.0) in
    let nodes : plain.node_count below ≡ solid.nodes kids = count-lossless kids (behind_gap n ts) in
    let next : ℕ = inner + plain.token_count below in
    let row : NodeRow = record { kind = kind; parent = parent; first = first; past = max (past_in us p) low; below = solid.nodes kids } in
    let here_row : node_row (record { number = m; parent = parent; first = inner; kind = kind; children = below }) ≡ row =
    the_node_row parent m inner kind below first (max (past_in us p) low) (solid.nodes kids)
    facts.first (ap (λ c. inner + c) tokens ∙ facts.last) nodes in
    let kids_rows : map node_row (nodes_in m (1 + m) inner below) ≡ node_rows m first (1 + m) p kids =
    rows-lossless m (1 + m) inner first p kids (behind_gap n ts) are.0 facts.inside in
    let next_at : At (after us p) next low (past n ts) =
    subst (λ c. At (after us p) (inner + c) low (past n ts)) (sym tokens) facts.next in
    let next_rows : map node_row (nodes_in parent (1 + m + plain.node_count below) next (lossless x (past n ts)))
    ≡ node_rows parent low (1 + m + solid.nodes kids) (after us p) x =
    ap (λ c. map node_row (nodes_in parent (1 + m + c) next (lossless x (past n ts)))) nodes
    ∙ rows-lossless parent (1 + m + solid.nodes kids) next low (after us p) x (past n ts) are.1 next_at in
    ap (map node_row) (nodes-before parent m t (gap n ts) (plain.branch kind below (lossless x (past n ts))))
    ∙ ap (λ l. node_row (record { number = m; parent = parent; first = inner; kind = kind; children = below }) ∷ l)
    (map-append node_row (nodes_in m (1 + m) inner below) (nodes_in parent (1 + m + plain.node_count below) next (lossless x (past n ts))))
    ∙ ap (λ r. r ∷ (map node_row (nodes_in m (1 + m) inner below) ++ map node_row (nodes_in parent (1 + m + plain.node_count below) next (lossless x (past n ts))))) here_row
    ∙ ap (λ l. row ∷ (l ++ map node_row (nodes_in parent (1 + m + plain.node_count below) next (lossless x (past n ts))))) kids_rows
    ∙ ap (λ l. row ∷ (node_rows m first (1 + m) p kids ++ l)) next_rows
