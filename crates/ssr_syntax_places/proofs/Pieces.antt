-- The pieces of a text, some in front of others: white space and comments, and what has as many solid ones as are taken.
use Rattle.std.proofs.Common.{◌≡◌, ℕ, zero, suc, ◌+◌, ◌<◌, ◌≤◌, true, false, if◌then◌else◌, List, [], ◌∷◌, ◌++◌, length, refl, sym, ap, subst, ◌∙◌, arith}
use Rattle.std.proofs.lemmas.List.{length-append}
use Rattle.ssr_syntax_kinds.specs.Kinds.{is_trivia}
use Rattle.ssr_syntax_tree.specs.Syntax as plain
use Rattle.ssr_syntax_forms.specs.Trees as solid
use Rattle.ssr_syntax_rows.specs.Lossless.{trivia, behind_trivia, gap, behind_gap, upto, past, before, lossless}
use Rattle.ssr_syntax_rows.proofs.Shared.{by_kind, upto-past, past-zero}
use Rattle.ssr_syntax_places.proofs.Misnamed.{AllTrivia}

-- how many of them the grammar reads
abbrev pub solid_count : List plain.Token → ℕ
solid_count [] = 0
solid_count (t ∷ ts) = if is_trivia t.kind then solid_count ts else suc (solid_count ts)

-- ** Behind white space and comments.

all_trivia : (ts : List plain.Token) → AllTrivia (trivia ts)
all_trivia [] = tt
all_trivia (t ∷ ts) = by_kind (λ b. AllTrivia (if b then t ∷ trivia ts else [])) t (λ e. (e, all_trivia ts)) (λ e. tt)

pub gap_all : (n : ℕ) (ts : List plain.Token) → AllTrivia (gap n ts)
gap_all zero ts = tt
gap_all (suc n) ts = all_trivia ts

pub trivia_lead : (lead ts : List plain.Token) → AllTrivia lead → trivia (lead ++ ts) ≡ lead ++ trivia ts
trivia_lead [] ts all = refl
trivia_lead (t ∷ lead) ts all =
    ap (λ b. if b then t ∷ trivia (lead ++ ts) else []) all.0 ∙ ap (λ l. t ∷ l) (trivia_lead lead ts all.1)

pub behind_lead : (lead ts : List plain.Token) → AllTrivia lead → behind_trivia (lead ++ ts) ≡ behind_trivia ts
behind_lead [] ts all = refl
behind_lead (t ∷ lead) ts all =
    ap (λ b. if b then behind_trivia (lead ++ ts) else t ∷ (lead ++ ts)) all.0 ∙ behind_lead lead ts all.1

pub past_lead : (n : ℕ) (lead ts : List plain.Token) → AllTrivia lead → past (suc n) (lead ++ ts) ≡ past (suc n) ts
past_lead n [] ts all = refl
past_lead n (t ∷ lead) ts all = ap (λ b. past (if b then suc n else n) (lead ++ ts)) all.0 ∙ past_lead n lead ts all.1

-- ** Past some solid ones, and past more.

pub past_more : (n m : ℕ) (ts : List plain.Token) → past (n + m) ts ≡ past m (past n ts)
past_more n m [] = refl
past_more zero m (t ∷ ts) = let same : zero + m ≡ m = omega arith in ap (λ l. past l (t ∷ ts)) same
past_more (suc n) m (t ∷ ts) =
    let same : suc n + m ≡ suc (n + m) = omega arith in
    ap (λ l. past l (t ∷ ts)) same
    ∙ elim (is_trivia t.kind)
    as (λ b. past (if b then suc (n + m) else n + m) ts ≡ past m (past (if b then suc n else n) ts))
    [ true ↦ ap (λ l. past l ts) (sym same) ∙ past_more (suc n) m ts | false ↦ past_more n m ts ]

-- ** Some pieces in front of others.

pub past_front : (n : ℕ) (ts us : List plain.Token) → n ≤ solid_count ts → past n (ts ++ us) ≡ past n ts ++ us
past_front zero [] us few = past-zero us
past_front (suc n) [] us few = absurd (omega (arith, few))
past_front zero (t ∷ ts) us few = refl
past_front (suc n) (t ∷ ts) us few =
    by_kind (λ b. suc n ≤ (if b then solid_count ts else suc (solid_count ts)) → past (if b then suc n else n) (ts ++ us) ≡ past (if b then suc n else n) ts ++ us) t
    (λ e less. past_front (suc n) ts us less) (λ e less. past_front n ts us (omega (arith, less))) few

pub upto_front : (n : ℕ) (ts us : List plain.Token) → n ≤ solid_count ts → upto n (ts ++ us) ≡ upto n ts
upto_front zero [] [] few = refl
upto_front zero [] (u ∷ us) few = refl
upto_front (suc n) [] us few = absurd (omega (arith, few))
upto_front zero (t ∷ ts) us few = refl
upto_front (suc n) (t ∷ ts) us few =
    by_kind (λ b. suc n ≤ (if b then solid_count ts else suc (solid_count ts)) → (t ∷ upto (if b then suc n else n) (ts ++ us)) ≡ t ∷ upto (if b then suc n else n) ts) t
    (λ e less. ap (λ l. t ∷ l) (upto_front (suc n) ts us less))
    (λ e less. ap (λ l. t ∷ l) (upto_front n ts us (omega (arith, less)))) few

pub trivia_front : (ts us : List plain.Token) → 0 < solid_count ts → trivia (ts ++ us) ≡ trivia ts
trivia_front [] us some = absurd (omega (arith, some))
trivia_front (t ∷ ts) us some =
    by_kind (λ b. 0 < (if b then solid_count ts else suc (solid_count ts)) → (if b then t ∷ trivia (ts ++ us) else []) ≡ (if b then t ∷ trivia ts else [])) t
    (λ e more. ap (λ l. t ∷ l) (trivia_front ts us more)) (λ e more. refl) some

pub behind_front : (ts us : List plain.Token) → 0 < solid_count ts → behind_trivia (ts ++ us) ≡ behind_trivia ts ++ us
behind_front [] us some = absurd (omega (arith, some))
behind_front (t ∷ ts) us some =
    by_kind (λ b. 0 < (if b then solid_count ts else suc (solid_count ts)) → (if b then behind_trivia (ts ++ us) else t ∷ (ts ++ us)) ≡ (if b then behind_trivia ts else t ∷ ts) ++ us) t
    (λ e more. behind_front ts us more) (λ e more. refl) some

pub count_behind : (ts : List plain.Token) → solid_count (behind_trivia ts) ≡ solid_count ts
count_behind [] = refl
count_behind (t ∷ ts) =
    by_kind (λ b. solid_count (if b then behind_trivia ts else t ∷ ts) ≡ (if b then solid_count ts else suc (solid_count ts))) t
    (λ e. count_behind ts) (λ e. ap (λ b. if b then solid_count ts else suc (solid_count ts)) e)

pub count_past : (n : ℕ) (ts : List plain.Token) → n ≤ solid_count ts → n + solid_count (past n ts) ≡ solid_count ts
count_past zero [] few = refl
count_past (suc n) [] few = absurd (omega (arith, few))
count_past zero (t ∷ ts) few = omega arith
count_past (suc n) (t ∷ ts) few =
    by_kind (λ b. suc n ≤ (if b then solid_count ts else suc (solid_count ts))
    → suc n + solid_count (past (if b then suc n else n) ts) ≡ (if b then solid_count ts else suc (solid_count ts))) t
    (λ e less. count_past (suc n) ts less) (λ e less. omega (arith, count_past n ts (omega (arith, less)))) few

gap_front : (n : ℕ) (ts us : List plain.Token) → n ≤ solid_count ts → gap n (ts ++ us) ≡ gap n ts
gap_front zero ts us few = refl
gap_front (suc n) ts us few = trivia_front ts us (omega (arith, few))

behind_gap_front : (n : ℕ) (ts us : List plain.Token) → n ≤ solid_count ts → behind_gap n (ts ++ us) ≡ behind_gap n ts ++ us
behind_gap_front zero ts us few = refl
behind_gap_front (suc n) ts us few = behind_front ts us (omega (arith, few))

count_gap : (n : ℕ) (ts : List plain.Token) → solid_count (behind_gap n ts) ≡ solid_count ts
count_gap zero ts = refl
count_gap (suc n) ts = count_behind ts

-- a forest takes no more than it has tokens for
pub lossless_front : (z : solid.Forest) (ts us : List plain.Token) → length (solid.spell z) ≤ solid_count ts → lossless z (ts ++ us) ≡ lossless z ts
lossless_front solid.done ts us few = refl
lossless_front (solid.leaf kind tokens x) ts us few =
    let n : ℕ = length tokens in
    let both : length (solid.spell (solid.leaf kind tokens x)) ≡ n + length (solid.spell x) = length-append tokens (solid.spell x) in
    let here : n ≤ solid_count ts = omega (arith, few, both) in
    let left : length (solid.spell x) ≤ solid_count (past n ts) = omega (arith, few, both, count_past n ts here) in
    let at : List plain.Token → List plain.Token → plain.Forest → plain.Forest = λ g b f. before g (plain.leaf (record { kind = kind; text = plain.spelled (upto n b) }) f) in
    let token : List plain.Token → plain.Token = λ l. record { kind = kind; text = plain.spelled l } in
    ap (λ g. at g (behind_gap n (ts ++ us)) (lossless x (past n (ts ++ us)))) (gap_front n ts us here)
    ∙ ap (λ b. at (gap n ts) b (lossless x (past n (ts ++ us)))) (behind_gap_front n ts us here)
    ∙ ap (λ l. before (gap n ts) (plain.leaf (token l) (lossless x (past n (ts ++ us)))))
    (upto_front n (behind_gap n ts) us (omega (arith, here, count_gap n ts)))
    ∙ ap (λ p. at (gap n ts) (behind_gap n ts) (lossless x p)) (past_front n ts us here)
    ∙ ap (λ f. at (gap n ts) (behind_gap n ts) f) (lossless_front x (past n ts) us left)
lossless_front (solid.tree kind kids x) ts us few =
    let n : ℕ = length (solid.spell kids) in
    let both : length (solid.spell (solid.tree kind kids x)) ≡ n + length (solid.spell x) = length-append (solid.spell kids) (solid.spell x) in
    let here : n ≤ solid_count ts = omega (arith, few, both) in
    let left : length (solid.spell x) ≤ solid_count (past n ts) = omega (arith, few, both, count_past n ts here) in
    ap (λ g. before g (plain.branch kind (lossless kids (behind_gap n (ts ++ us))) (lossless x (past n (ts ++ us))))) (gap_front n ts us here)
    ∙ ap (λ b. before (gap n ts) (plain.branch kind (lossless kids b) (lossless x (past n (ts ++ us))))) (behind_gap_front n ts us here)
    ∙ ap (λ f. before (gap n ts) (plain.branch kind f (lossless x (past n (ts ++ us)))))
    (lossless_front kids (behind_gap n ts) us (omega (arith, here, count_gap n ts)))
    ∙ ap (λ p. before (gap n ts) (plain.branch kind (lossless kids (behind_gap n ts)) (lossless x p))) (past_front n ts us here)
    ∙ ap (λ f. before (gap n ts) (plain.branch kind (lossless kids (behind_gap n ts)) f)) (lossless_front x (past n ts) us left)

-- ** What takes exactly so many solid ones, from the first to the last.

pub record IsRun (n : ℕ) (ts : List plain.Token) : Type 0 where
  pub some : 0 < n
  pub enough : n ≤ solid_count ts
  pub front : (us : List plain.Token) → trivia (ts ++ us) ≡ []
  pub behind : (us : List plain.Token) → behind_trivia (ts ++ us) ≡ ts ++ us
  pub past : (us : List plain.Token) → past n (ts ++ us) ≡ us

-- a solid one
pub one_run : (t : plain.Token) → is_trivia t.kind ≡ false → IsRun 1 (t ∷ [])
one_run t solid = record {
  some = omega arith;
  enough = let one : solid_count (t ∷ []) ≡ 1 = ap (λ b. if b then 0 else 1) solid in omega (arith, one);
  front = λ us. ap (λ b. if b then t ∷ trivia us else []) solid;
  behind = λ us. ap (λ b. if b then behind_trivia us else t ∷ us) solid;
  past = λ us. ap (λ b. past (if b then 1 else 0) us) solid ∙ past-zero us;
}

-- past the last of those up to it
past_upto : (n : ℕ) (ts us : List plain.Token) → n ≤ solid_count ts → past n (upto n ts ++ us) ≡ us
past_upto zero [] us few = past-zero us
past_upto (suc n) [] us few = absurd (omega (arith, few))
past_upto zero (t ∷ ts) us few = past-zero us
past_upto (suc n) (t ∷ ts) us few =
    by_kind (λ b. suc n ≤ (if b then solid_count ts else suc (solid_count ts)) → past (if b then suc n else n) (upto (if b then suc n else n) ts ++ us) ≡ us) t
    (λ e less. past_upto (suc n) ts us less) (λ e less. past_upto n ts us (omega (arith, less))) few

count_upto : (n : ℕ) (ts : List plain.Token) → n ≤ solid_count ts → n ≤ solid_count (upto n ts)
count_upto zero ts few = omega arith
count_upto (suc n) [] few = absurd (omega (arith, few))
count_upto (suc n) (t ∷ ts) few =
    by_kind (λ b. suc n ≤ (if b then solid_count ts else suc (solid_count ts))
    → suc n ≤ (if b then solid_count (upto (if b then suc n else n) ts) else suc (solid_count (upto (if b then suc n else n) ts)))) t
    (λ e less. count_upto (suc n) ts less) (λ e less. omega (arith, count_upto n ts (omega (arith, less)))) few

-- of pieces that begin with a solid one
begins : (n : ℕ) (t : plain.Token) (ts us : List plain.Token) → is_trivia t.kind ≡ false → 0 < n → trivia (upto n (t ∷ ts) ++ us) ≡ []
begins zero t ts us solid some = absurd (omega (arith, some))
begins (suc n) t ts us solid some =
    ap (λ b. if b then t ∷ trivia (upto (if is_trivia t.kind then suc n else n) ts ++ us) else []) solid

begins_behind : (n : ℕ) (t : plain.Token) (ts us : List plain.Token) → is_trivia t.kind ≡ false → 0 < n
    → behind_trivia (upto n (t ∷ ts) ++ us) ≡ upto n (t ∷ ts) ++ us
begins_behind zero t ts us solid some = absurd (omega (arith, some))
begins_behind (suc n) t ts us solid some =
    let rest : List plain.Token = upto (if is_trivia t.kind then suc n else n) ts ++ us in
    ap (λ b. if b then behind_trivia rest else t ∷ rest) solid

-- behind all solid ones only white space and comments are left
pub past_all : (n : ℕ) (ts : List plain.Token) → n ≡ solid_count ts → AllTrivia (past n ts)
past_all n [] all = tt
past_all zero (t ∷ ts) all =
    by_kind (λ b. zero ≡ (if b then solid_count ts else suc (solid_count ts)) → (is_trivia t.kind ≡ true) × AllTrivia ts) t
    (λ e none. (e, subst AllTrivia (past-zero ts) (past_all zero ts none))) (λ e none. absurd (omega (arith, none))) all
past_all (suc n) (t ∷ ts) all =
    by_kind (λ b. suc n ≡ (if b then solid_count ts else suc (solid_count ts)) → AllTrivia (past (if b then suc n else n) ts)) t
    (λ e same. past_all (suc n) ts same) (λ e same. past_all n ts (omega (arith, same))) all

-- some pieces are white space and comments, those up to the last solid one that is asked for, and others
pub record Split (n : ℕ) (ts : List plain.Token) : Type 0 where
  pub lead : List plain.Token
  pub inner : List plain.Token
  pub trail : List plain.Token
  pub all : ts ≡ lead ++ (inner ++ trail)
  pub leads : AllTrivia lead
  pub run : IsRun n inner
  pub trails : n ≡ solid_count ts → AllTrivia trail

pub split : (n : ℕ) (ts : List plain.Token) → 0 < n → n ≤ solid_count ts → Split n ts
split n [] some few = absurd (omega (arith, some, few))
split n (t ∷ ts) some few =
    by_kind (λ b. Split n (t ∷ ts)) t
    (λ e.
    let same : solid_count (t ∷ ts) ≡ solid_count ts = ap (λ b. if b then solid_count ts else suc (solid_count ts)) e in
    let rest = split n ts some (omega (arith, few, same)) in
    record {
      lead = t ∷ rest.lead;
      inner = rest.inner;
      trail = rest.trail;
      all = ap (λ l. t ∷ l) rest.all;
      leads = (e, rest.leads);
      run = rest.run;
      trails = λ count. rest.trails (count ∙ same);
    })
    (λ e. record {
      lead = [];
      inner = upto n (t ∷ ts);
      trail = past n (t ∷ ts);
      all = sym (upto-past n (t ∷ ts));
      leads = tt;
      run = record {
        some = some;
        enough = count_upto n (t ∷ ts) few;
        front = λ us. begins n t ts us e some;
        behind = λ us. begins_behind n t ts us e some;
        past = λ us. past_upto n (t ∷ ts) us few;
      };
      trails = past_all n (t ∷ ts);
    })
