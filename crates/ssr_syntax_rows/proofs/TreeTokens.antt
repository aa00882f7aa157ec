-- Laws of the walk over a text's tokens and those that were taken or joined: the rows are those of the lossless tree.
use Rattle.std.proofs.Common.{◌≡◌, ℕ, zero, suc, ◌+◌, ◌-◌, ◌<◌, ◌≤◌, true, false, if◌then◌else◌, inl, inr, List, [], ◌∷◌, ◌++◌, length, map, refl, sym, ◌∙◌, ap, subst, arith, append_assoc, length-append}
use Rattle.std.specs.Prelude.{⊤, ◌==◌}
use Rattle.std.proofs.lemmas.Bool.{and_parts, cases_Bool, eq-eqb, eqb-true, ne_eqb}
use Rattle.ssr_syntax_kinds.specs.declared.kinds.SyntaxKind.{SyntaxKind}
use Rattle.ssr_syntax_kinds.specs.Kinds.{is_trivia, same_kind}
use Rattle.ssr_syntax_kinds.proofs.Shared.{same_kind-equal}
use Rattle.ssr_syntax_lex.specs.Tokens.{token_text, row_of, TilesFrom}
use Rattle.ssr_syntax_lex.specs.declared.tokens.RawToken.{RawToken}
use Rattle.ssr_syntax_kinds.specs.declared.token_rows.TokenRow.{TokenRow}
use Rattle.ssr_syntax_tree.specs.Syntax as plain
use Rattle.ssr_syntax_tree.specs.Parts.{token_rows}
use Rattle.ssr_syntax_forms.specs.declared.rows.Joined.{Joined}
use Rattle.ssr_syntax_forms.specs.Places.{leading, behind_trivia, behind_solid, Place, place_at, behind_token, is_alone}
use Rattle.ssr_syntax_rows.specs.Lossless as text
use Rattle.ssr_syntax_rows.specs.Lossless.{trivia, gap, behind_gap, upto, past}
use Rattle.ssr_syntax_rows.specs.Solid.{solid_token, solid_tokens, pieces}
use Rattle.ssr_syntax_rows.specs.Leaves.{Taken}
use Rattle.ssr_syntax_rows.specs.TreeTokens.{joined_rows}
use Rattle.ssr_syntax_rows.proofs.Leaves.{joined_of}
use Rattle.ssr_syntax_rows.proofs.Laid.{AreSolid, total, token_of, laid, all_laid, by_kind, upto-zero, past-zero, past-add}
use Rattle.ssr_syntax_rows.specs.SolidKinds.{kinds_of}
use Rattle.ssr_syntax_rows.proofs.Tiles.{tiles_within, length-token}

-- ** The first of a text's tokens.

-- white space or a comment stands in front of what is taken
record InFront (n : ℕ) (p : plain.Token) (ps : List plain.Token) : Type 0 where
  gaps : gap n (p ∷ ps) ≡ p ∷ gap n ps
  behind_gaps : behind_gap n (p ∷ ps) ≡ behind_gap n ps
  past_is : past n (p ∷ ps) ≡ past n ps

in_front : (n : ℕ) (p : plain.Token) (ps : List plain.Token) → 0 < n → is_trivia p.kind ≡ true → InFront n p ps
in_front zero p ps lt e = absurd (omega arith)
in_front (suc n) p ps lt e = record {
  gaps = ap (λ b. if b then p ∷ trivia ps else []) e;
  behind_gaps = ap (λ b. if b then text.behind_trivia ps else p ∷ ps) e;
  past_is = ap (λ b. past (if b then suc n else n) ps) e;
}

-- another token is of what is taken first
record IsFirst (n : ℕ) (p : plain.Token) (ps : List plain.Token) : Type 0 where
  gaps : gap n (p ∷ ps) ≡ []
  behind_gaps : behind_gap n (p ∷ ps) ≡ p ∷ ps
  upto_is : upto n (p ∷ ps) ≡ p ∷ upto (n - 1) ps
  past_is : past n (p ∷ ps) ≡ past (n - 1) ps

is_first : (n : ℕ) (p : plain.Token) (ps : List plain.Token) → 0 < n → is_trivia p.kind ≡ false → IsFirst n p ps
is_first zero p ps lt e = absurd (omega arith)
is_first (suc n) p ps lt e =
    let less : n ≡ suc n - 1 = omega arith in
    record {
      gaps = ap (λ b. if b then p ∷ trivia ps else []) e;
      behind_gaps = ap (λ b. if b then text.behind_trivia ps else p ∷ ps) e;
      upto_is = ap (λ b. p ∷ upto (if b then suc n else n) ps) e ∙ ap (λ m. p ∷ upto m ps) less;
      past_is = ap (λ b. past (if b then suc n else n) ps) e ∙ ap (λ m. past m ps) less;
    }

abbrev put : SyntaxKind → List plain.Token → List plain.Token → List plain.Token → List plain.Token
put kind gaps of_it rest = gaps ++ (record { kind = kind; text = plain.spelled of_it } ∷ rest)

pub all-next : (u : Taken) (us : List Taken) (ts : List plain.Token)
    → all_laid (u ∷ us) ts ≡ put u.kind (gap u.size ts) (upto u.size (behind_gap u.size ts)) (all_laid us (past u.size ts))
all-next u us ts =
    append_assoc (gap u.size ts) (token_of u ts ∷ laid us (past u.size ts)) (past (u.size + total us) ts)
    ∙ ap (λ l. gap u.size ts ++ (token_of u ts ∷ (laid us (past u.size ts) ++ l))) (past-add u.size (total us) ts)

all-in_front : (u : Taken) (us : List Taken) (p : plain.Token) (ps : List plain.Token) → InFront u.size p ps
    → all_laid (u ∷ us) (p ∷ ps) ≡ p ∷ all_laid (u ∷ us) ps
all-in_front u us p ps f =
    let n = u.size in
    all-next u us (p ∷ ps)
    ∙ ap (λ g. put u.kind g (upto n (behind_gap n (p ∷ ps))) (all_laid us (past n (p ∷ ps)))) f.gaps
    ∙ ap (λ l. put u.kind (p ∷ gap n ps) (upto n l) (all_laid us (past n (p ∷ ps)))) f.behind_gaps
    ∙ ap (λ l. put u.kind (p ∷ gap n ps) (upto n (behind_gap n ps)) (all_laid us l)) f.past_is
    ∙ ap (λ l. p ∷ l) (sym (all-next u us ps))

all-first : (u : Taken) (us : List Taken) (p : plain.Token) (ps : List plain.Token) → IsFirst u.size p ps
    → all_laid (u ∷ us) (p ∷ ps) ≡ put u.kind [] (p ∷ upto (u.size - 1) ps) (all_laid us (past (u.size - 1) ps))
all-first u us p ps f =
    let n = u.size in
    all-next u us (p ∷ ps)
    ∙ ap (λ g. put u.kind g (upto n (behind_gap n (p ∷ ps))) (all_laid us (past n (p ∷ ps)))) f.gaps
    ∙ ap (λ l. put u.kind [] (upto n l) (all_laid us (past n (p ∷ ps)))) f.behind_gaps
    ∙ ap (λ l. put u.kind [] l (all_laid us (past n (p ∷ ps)))) f.upto_is
    ∙ ap (λ l. put u.kind [] (p ∷ upto (n - 1) ps) (all_laid us l)) f.past_is

-- ** The rows.

-- by all tokens that are taken: the one that was taken last has `left` solid ones more
abbrev pub taken_rows : ℕ → List Taken → List TokenRow → List TokenRow
taken_rows left us [] = []
taken_rows zero [] (t ∷ ts) = t ∷ taken_rows zero [] ts
taken_rows zero (u ∷ us) (t ∷ ts) =
    if is_trivia t.kind then t ∷ taken_rows zero (u ∷ us) ts
    else (record { kind = u.kind; start = t.start } ∷ taken_rows (u.size - 1) us ts)
taken_rows (suc n) us (t ∷ ts) = taken_rows (if is_trivia t.kind then suc n else n) us ts

abbrev row : SyntaxKind → ℕ → TokenRow
row kind start = record { kind = kind; start = start }

-- a row, and those behind it
next_row : (kind : SyntaxKind) (a start e next : ℕ) (rest : List TokenRow) (l m : List plain.Token)
    → a ≡ start → rest ≡ token_rows e l → e ≡ next → l ≡ m → row kind a ∷ rest ≡ row kind start ∷ token_rows next m
next_row kind a start e next rest l m f g h same =
    ap (λ n. row kind n ∷ rest) f
    ∙ ap (λ r. row kind start ∷ r) (g ∙ ap (λ n. token_rows n l) h ∙ ap (token_rows next) same)

abbrev count_spelled : ℕ → List plain.Token → ℕ
count_spelled n ts = length (plain.spelled (upto n ts))

no_spelled : (ts : List plain.Token) → count_spelled zero ts ≡ 0
no_spelled ts = ap (λ l. length (plain.spelled l)) (upto-zero ts)

abbrev IsLaid : List ℕ → ℕ → ℕ → List Taken → List RawToken → Type 0
IsLaid text start left us raw =
    taken_rows left us (map row_of raw) ≡ token_rows (start + count_spelled left (pieces text raw)) (all_laid us (past left (pieces text raw)))

pub rows_laid : (text : List ℕ) (start left : ℕ) (us : List Taken) (raw : List RawToken) → TilesFrom text start raw → AreSolid us
    → left + total us ≤ length (solid_tokens raw) → IsLaid text start left us raw
rows_laid text start left [] [] tiles s le = refl
rows_laid text start left (u ∷ us) [] tiles s le = absurd (omega (arith, s.0))
rows_laid text start zero [] (t ∷ ts) tiles s le =
    let ps = pieces text ts in
    let p : plain.Token = record { kind = t.kind; text = token_text text t } in
    let none : 0 + total [] ≤ length (solid_tokens ts) = omega arith in
    let long : length p.text ≡ t.range.end - start = length-token text t start tiles.0 (tiles_within text t.range.end ts tiles.3) in
    next_row t.kind t.range.start (start + 0) (t.range.end + count_spelled zero ps) (start + 0 + length p.text) (taken_rows zero [] (map row_of ts))
    (past zero (past zero ps)) ps
    (omega (arith, tiles.0)) (rows_laid text t.range.end zero [] ts tiles.3 tt none) (omega (arith, no_spelled ps, tiles.1))
    (past-zero (past zero ps) ∙ past-zero ps)
rows_laid text start zero (u ∷ us) (t ∷ ts) tiles s le =
    let ps = pieces text ts in
    let n = u.size in
    let p : plain.Token = record { kind = t.kind; text = token_text text t } in
    let long : length p.text ≡ t.range.end - start = length-token text t start tiles.0 (tiles_within text t.range.end ts tiles.3) in
    by_kind (λ b. 0 + total (u ∷ us) ≤ length (if b then solid_tokens ts else solid_token t ts ∷ solid_tokens ts)
    → (if b then row t.kind t.range.start ∷ taken_rows zero (u ∷ us) (map row_of ts) else (row u.kind t.range.start ∷ taken_rows (n - 1) us (map row_of ts)))
    ≡ token_rows (start + 0) (all_laid (u ∷ us) (p ∷ ps))) p
    (λ e k.
    next_row t.kind t.range.start (start + 0) (t.range.end + count_spelled zero ps) (start + 0 + length p.text) (taken_rows zero (u ∷ us) (map row_of ts))
    (all_laid (u ∷ us) (past zero ps)) (all_laid (u ∷ us) ps)
    (omega (arith, tiles.0)) (rows_laid text t.range.end zero (u ∷ us) ts tiles.3 s k) (omega (arith, no_spelled ps, tiles.1))
    (ap (all_laid (u ∷ us)) (past-zero ps))
    ∙ ap (token_rows (start + 0)) (sym (all-in_front u us p ps (in_front n p ps s.0 e))))
    (λ e k.
    let less : n - 1 + total us ≤ length (solid_tokens ts) = omega (arith, s.0) in
    let rest = all_laid us (past (n - 1) ps) in
    let longer : length (plain.spelled (p ∷ upto (n - 1) ps)) ≡ length p.text + count_spelled (n - 1) ps =
    length-append p.text (plain.spelled (upto (n - 1) ps)) in
    next_row u.kind t.range.start (start + 0) (t.range.end + count_spelled (n - 1) ps)
    (start + 0 + length (plain.spelled (p ∷ upto (n - 1) ps))) (taken_rows (n - 1) us (map row_of ts)) rest rest
    (omega (arith, tiles.0)) (rows_laid text t.range.end (n - 1) us ts tiles.3 s.2 less) (omega (arith, tiles.1)) refl
    ∙ ap (token_rows (start + 0)) (sym (all-first u us p ps (is_first n p ps s.0 e))))
    le
rows_laid text start (suc n) us (t ∷ ts) tiles s le =
    let ps = pieces text ts in
    let p : plain.Token = record { kind = t.kind; text = token_text text t } in
    let long : length p.text ≡ t.range.end - start = length-token text t start tiles.0 (tiles_within text t.range.end ts tiles.3) in
    let step : (left : ℕ) → left + total us ≤ length (solid_tokens ts)
    → taken_rows left us (map row_of ts) ≡ token_rows (start + length (plain.spelled (p ∷ upto left ps))) (all_laid us (past left ps)) =
    λ left k. rows_laid text t.range.end left us ts tiles.3 s k
    ∙ ap (λ m. token_rows m (all_laid us (past left ps)))
    (let longer : length (plain.spelled (p ∷ upto left ps)) ≡ length p.text + count_spelled left ps =
    length-append p.text (plain.spelled (upto left ps)) in
    omega (arith, tiles.1)) in
    by_kind (λ b. suc n + total us ≤ length (if b then solid_tokens ts else solid_token t ts ∷ solid_tokens ts)
    → taken_rows (if b then suc n else n) us (map row_of ts)
    ≡ token_rows (start + length (plain.spelled (p ∷ upto (if b then suc n else n) ps))) (all_laid us (past (if b then suc n else n) ps))) p
    (λ e k. step (suc n) k)
    (λ e k. step n (omega arith))
    le

pub length-token_rows : (start : ℕ) (ts : List plain.Token) → length (token_rows start ts) ≡ length ts
length-token_rows start [] = refl
length-token_rows start (t ∷ ts) = omega (arith, length-token_rows (start + length t.text) ts)

-- ** The joined tokens tell all of them.

pub no_joined : (n : ℕ) (ts : List TokenRow) → joined_rows zero n [] ts ≡ ts
no_joined n [] = refl
no_joined n (t ∷ ts) = refl

pub none_joined : (n : ℕ) (js : List Joined) (ts : List TokenRow) → length js ≡ 0 → joined_rows zero n js ts ≡ ts
none_joined n [] ts e = no_joined n ts
none_joined n (j ∷ js) ts e = absurd (omega (arith, e))

-- where nothing is joined any more, a row is put down as it is
pub row_put_alone : (left : ℕ) (js : List Joined) (old new : List TokenRow) (t : TokenRow) (ts : List TokenRow) → left ≡ 0 → length js ≡ 0 → new ≡ old ++ t ∷ []
    → new ++ joined_rows 0 (length new) js ts ≡ old ++ joined_rows left (length old) js (t ∷ ts)
row_put_alone (suc left) js old new t ts e none put = absurd (omega (arith, e))
row_put_alone zero js old new t ts e none put =
    ap (λ l. new ++ l) (none_joined (length new) js ts none)
    ∙ ap (λ l. l ++ ts) put
    ∙ append_assoc old (t ∷ []) ts
    ∙ ap (λ l. old ++ l) (sym (none_joined (length old) js (t ∷ ts) none))

-- the first one has this number or a later one
abbrev BeginBehind : ℕ → List Joined → Type 0
BeginBehind n [] = ⊤
BeginBehind n (j ∷ js) = n ≤ j.number

joined_behind : (us : List Taken) (p : Place) (n : ℕ) → n ≤ p.next → BeginBehind n (joined_of us p)
joined_behind [] p n le = tt
joined_behind (u ∷ us) p n le =
    elim (is_alone u.kind u.size p.kinds)
    as (λ b. BeginBehind n ((if b then [] else record { number = p.next; kind = u.kind; size = u.size } ∷ []) ++ joined_of us (behind_token u.size p)))
    [ true ↦ joined_behind us (behind_token u.size p) n (omega (arith, le)) | false ↦ le ]

-- a row in front of all of them stands as it is
row_kept : (n : ℕ) (js : List Joined) (t : TokenRow) (ts : List TokenRow) → BeginBehind (1 + n) js
    → joined_rows zero n js (t ∷ ts) ≡ t ∷ joined_rows zero (1 + n) js ts
row_kept n [] t ts h = ap (λ l. t ∷ l) (sym (no_joined (1 + n) ts))
row_kept n (j ∷ js) t ts h =
    let other : (j.number == n) ≡ false = ne_eqb j.number n (λ e. omega (arith, h, e)) in
    ap (λ b. if b then (record { kind = j.kind; start = t.start } ∷ joined_rows (j.size - 1) (1 + n) js ts) else (t ∷ joined_rows zero (1 + n) (j ∷ js) ts)) other

-- what is joined depends on what comes next alone
joined_same : (us : List Taken) (p q : Place) → p.next ≡ q.next → p.kinds ≡ q.kinds → joined_of us p ≡ joined_of us q
joined_same [] p q e f = refl
joined_same (u ∷ us) p q e f =
    ap (λ ks. (if is_alone u.kind u.size ks then [] else record { number = p.next; kind = u.kind; size = u.size } ∷ []) ++ joined_of us (behind_token u.size p)) f
    ∙ ap (λ n. (if is_alone u.kind u.size q.kinds then [] else record { number = n; kind = u.kind; size = u.size } ∷ []) ++ joined_of us (behind_token u.size p)) e
    ∙ ap (λ r. (if is_alone u.kind u.size q.kinds then [] else record { number = q.next; kind = u.kind; size = u.size } ∷ []) ++ joined_of us r)
    (ap (λ n. place_at (1 + n) (behind_solid u.size p.kinds)) e ∙ ap (λ ks. place_at (1 + q.next) (behind_solid u.size ks)) f)

pub behind_nothing : (ks : List SyntaxKind) → behind_solid zero ks ≡ ks
behind_nothing [] = refl
behind_nothing (k ∷ ks) = refl

behind_one : (n : ℕ) (k : SyntaxKind) (ks : List SyntaxKind) → 0 < n → is_trivia k ≡ false → behind_solid n (k ∷ ks) ≡ behind_solid (n - 1) ks
behind_one zero k ks lt e = absurd (omega arith)
behind_one (suc n) k ks lt e =
    ap (λ b. behind_solid (if b then suc n else n) ks) e ∙ ap (λ m. behind_solid m ks) (omega arith)

-- in front of the rows that are left behind what was taken last
abbrev front : ℕ → ℕ → List TokenRow → Place
front left n ts = place_at n (behind_solid left (kinds_of ts))

-- a row of a solid token: what was taken there
taken_solid : (u : Taken) (us : List Taken) (n : ℕ) (t : TokenRow) (ts : List TokenRow) → 0 < u.size → is_trivia t.kind ≡ false
    → joined_rows (u.size - 1) (1 + n) (joined_of us (front (u.size - 1) (1 + n) ts)) ts ≡ taken_rows (u.size - 1) us ts
    → joined_rows zero n (joined_of (u ∷ us) (front zero n (t ∷ ts))) (t ∷ ts) ≡ taken_rows zero (u ∷ us) (t ∷ ts)
taken_solid u us n t ts lt solid rest =
    let ks = kinds_of ts in
    let here : Place = front zero n (t ∷ ts) in
    let next : Place = front (u.size - 1) (1 + n) ts in
    let joint : Joined = record { number = n; kind = u.kind; size = u.size } in
    let taken : TokenRow = record { kind = u.kind; start = t.start } in
    let behind : Place → List Joined = λ p.
    (if is_alone u.kind u.size p.kinds then [] else record { number = p.next; kind = u.kind; size = u.size } ∷ []) ++ joined_of us next in
    let number : here.next ≡ n = ap (λ b. n + (if b then 1 + leading ks else 0)) solid ∙ omega arith in
    let kinds : here.kinds ≡ t.kind ∷ ks = ap (λ b. if b then behind_trivia ks else t.kind ∷ ks) solid in
    let left : behind_solid u.size here.kinds ≡ behind_solid (u.size - 1) ks = ap (behind_solid u.size) kinds ∙ behind_one u.size t.kind ks lt solid in
    let place : behind_token u.size here ≡ next =
    ap (λ m. place_at (1 + m) (behind_solid u.size here.kinds)) number ∙ ap (place_at (1 + n)) left in
    let all : joined_of (u ∷ us) here ≡ (if is_alone u.kind u.size (t.kind ∷ ks) then [] else joint ∷ []) ++ joined_of us next =
    ap (λ p. (if is_alone u.kind u.size here.kinds then [] else record { number = here.next; kind = u.kind; size = u.size } ∷ []) ++ joined_of us p) place
    ∙ ap (λ l. (if is_alone u.kind u.size l then [] else record { number = here.next; kind = u.kind; size = u.size } ∷ []) ++ joined_of us next) kinds
    ∙ ap (λ m. (if is_alone u.kind u.size (t.kind ∷ ks) then [] else record { number = m; kind = u.kind; size = u.size } ∷ []) ++ joined_of us next) number in
    let told : taken_rows zero (u ∷ us) (t ∷ ts) ≡ taken ∷ taken_rows (u.size - 1) us ts =
    ap (λ b. if b then t ∷ taken_rows zero (u ∷ us) ts else (taken ∷ taken_rows (u.size - 1) us ts)) solid in
    elim (cases_Bool (is_alone u.kind u.size (t.kind ∷ ks))) [
      | inl alone ↦
          let is = and_parts (same_kind t.kind u.kind) (u.size == 1) alone in
          let one : u.size - 1 ≡ zero = omega (arith, eqb-true u.size 1 is.1) in
          let js = all ∙ ap (λ b. (if b then [] else joint ∷ []) ++ joined_of us next) alone in
          ap (λ l. joined_rows zero n l (t ∷ ts)) js
          ∙ row_kept n (joined_of us next) t ts (joined_behind us next (1 + n) (omega arith))
          ∙ ap (λ m. t ∷ joined_rows m (1 + n) (joined_of us next) ts) (sym one)
          ∙ ap (λ l. t ∷ l) rest
          ∙ ap (λ k. record { kind = k; start = t.start } ∷ taken_rows (u.size - 1) us ts) (same_kind-equal t.kind u.kind is.0)
          ∙ sym told
      | inr other ↦
          let js = all ∙ ap (λ b. (if b then [] else joint ∷ []) ++ joined_of us next) other in
          ap (λ l. joined_rows zero n l (t ∷ ts)) js
          ∙ ap (λ b. if b then (taken ∷ joined_rows (u.size - 1) (1 + n) (joined_of us next) ts) else (t ∷ joined_rows zero (1 + n) (joint ∷ joined_of us next) ts))
          (eq-eqb n n refl)
          ∙ ap (λ l. taken ∷ l) rest
          ∙ sym told
    ]

pub joined_taken : (us : List Taken) (left n : ℕ) (ts : List TokenRow) → AreSolid us
    → joined_rows left n (joined_of us (place_at n (behind_solid left (kinds_of ts)))) ts ≡ taken_rows left us ts
joined_taken [] zero n [] s = refl
joined_taken (u ∷ us) zero n [] s = refl
joined_taken us (suc left) n [] s = refl
joined_taken us (suc left) n (t ∷ ts) s = joined_taken us (if is_trivia t.kind then suc left else left) n ts s
joined_taken [] zero n (t ∷ ts) s = ap (λ l. t ∷ l) (sym (no_joined n ts) ∙ joined_taken [] zero n ts tt)
joined_taken (u ∷ us) zero n (t ∷ ts) s =
    let ks = kinds_of ts in
    let here : Place = place_at n (t.kind ∷ ks) in
    let later : Place = place_at (1 + n) (behind_solid zero ks) in
    let js = joined_of (u ∷ us) here in
    elim (cases_Bool (is_trivia t.kind)) [
      | inl blank ↦
          let same : js ≡ joined_of (u ∷ us) later =
          joined_same (u ∷ us) here later
          (omega (arith, ap (λ b. if b then 1 + leading ks else 0) blank, ap leading (behind_nothing ks)))
          (ap (λ b. if b then behind_trivia ks else t.kind ∷ ks) blank ∙ ap behind_trivia (sym (behind_nothing ks))) in
          row_kept n js t ts (subst (BeginBehind (1 + n)) (sym same) (joined_behind (u ∷ us) later (1 + n) (omega arith)))
          ∙ ap (λ l. t ∷ joined_rows zero (1 + n) l ts) same
          ∙ ap (λ l. t ∷ l) (joined_taken (u ∷ us) zero (1 + n) ts s)
          ∙ ap (λ b. if b then t ∷ taken_rows zero (u ∷ us) ts else (record { kind = u.kind; start = t.start } ∷ taken_rows (u.size - 1) us ts)) (sym blank)
      | inr solid ↦ taken_solid u us n t ts s.0 solid (joined_taken us (u.size - 1) (1 + n) ts s.2)
    ]
