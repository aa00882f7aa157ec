-- Aligned pieces with their bytes: where a place of the short text is the same as one of the long text.
use Rattle.std.proofs.Common.{◌≡◌, ℕ, zero, suc, ◌+◌, ◌<◌, ◌≤◌, ◌==◌, false, List, [], ◌∷◌, ◌++◌, length, Some, None, ◌⊎◌, refl, sym, ap, subst, ◌∙◌, arith}
use Rattle.std.specs.Prelude.{Option, ⊤}
use Rattle.std.proofs.lemmas.List.{append-nil}
use Rattle.ssr_syntax_kinds.specs.Kinds.{is_trivia}
use Rattle.ssr_syntax_tree.specs.Syntax as plain
use Rattle.ssr_syntax_rows.specs.Lossless.{gap, behind_gap, upto, past}
use Rattle.ssr_syntax_rows.proofs.Shared.{past-zero, upto-zero, upto-past}
use Rattle.ssr_syntax_places.specs.Core.{Hole, Holes}
use Rattle.ssr_syntax_places.proofs.Misnamed.{AllTrivia}
use Rattle.ssr_syntax_places.proofs.Pieces.{trivia_lead, IsRun, one_run}
use Rattle.ssr_syntax_places.proofs.Aligned.{Step, size_of, filled_size, put_run, run_behind, run_past}
use Rattle.ssr_syntax_places.proofs.Spans.{bytes, bytes_append, bytes_first}

-- the first and the last byte that are asked for, in the short text and in the long one
pub record Ends : Type 0 where
  pub from : ℕ
  pub to : ℕ
  pub long_from : ℕ
  pub long_to : ℕ
  pub some : from < to
  pub long_some : long_from < long_to

-- a place isn't between these
abbrev pub IsOutside : ℕ → ℕ → ℕ → Type 0
IsOutside first last place = (place ≤ first) ⊎ (last ≤ place)

-- what is asked of the places where something is put: none of them is inside
pub record IsApart (e : Ends) (first last long_first long_last : ℕ) : Type 0 where
  pub from : IsOutside first last e.from
  pub to : IsOutside first last e.to
  pub long_from : IsOutside long_first long_last e.long_from
  pub long_to : IsOutside long_first long_last e.long_to

abbrev pub IsApartFor : Option Hole → Ends → ℕ → ℕ → ℕ → ℕ → Type 0
IsApartFor None e first last long_first long_last = ⊤
IsApartFor (Some hole) e first last long_first long_last = IsApart e first last long_first long_last

-- One token, `at` bytes into the short text and `long` bytes into the long one: it begins at the first byte that is asked for in
-- both or in neither, and so it ends at the last one.
pub record Measure (hole : Option Hole) (e : Ends) (Rest : ℕ → ℕ → List plain.Token → List plain.Token → Type 0) (at long : ℕ) (ts us : List plain.Token) : Type 0 where
  pub step : Step hole (λ vs ws. ⊤) ts us
  pub starts : (at + bytes step.lead == e.from) ≡ (long + bytes step.long_lead == e.long_from)
  pub ends : ((at + bytes step.lead) + length step.token.text == e.to) ≡ ((long + bytes step.long_lead) + bytes step.put == e.long_to)
  pub apart : IsApartFor hole e (at + bytes step.lead) ((at + bytes step.lead) + length step.token.text) (long + bytes step.long_lead)
      ((long + bytes step.long_lead) + bytes step.put)
  pub rest : Rest ((at + bytes step.lead) + length step.token.text) ((long + bytes step.long_lead) + bytes step.put) step.short_rest step.long_rest

abbrev pub AreMeasured : Holes → Ends → ℕ → ℕ → ℕ → ℕ → List plain.Token → List plain.Token → Type 0
AreMeasured holes e number zero at long ts us = ⊤
AreMeasured holes e number (suc n) at long ts us =
    Measure (holes number) e (λ a b vs ws. AreMeasured holes e (number + 1) n a b vs ws) at long ts us

-- ** Pieces up to a token.

upto_bytes : (n : ℕ) (ts : List plain.Token) → bytes (upto n ts) + bytes (past n ts) ≡ bytes ts
upto_bytes n ts = sym (bytes_append (upto n ts) (past n ts)) ∙ ap bytes (upto-past n ts)

-- those up to what is put there, and to some more
run_bytes : (n m : ℕ) (lead put rest : List plain.Token) → AllTrivia lead → IsRun n put
    → bytes (upto (n + m) (lead ++ (put ++ rest))) ≡ (bytes lead + bytes put) + bytes (upto m rest)
run_bytes n m lead put rest all run =
    let ts : List plain.Token = lead ++ (put ++ rest) in
    omega (
      arith,
      upto_bytes (n + m) ts,
      ap bytes (run_past n m lead put rest all run),
      bytes_append lead (put ++ rest),
      bytes_append put rest,
      upto_bytes m rest,
    )

pub lead_gap : (n m : ℕ) (lead put rest : List plain.Token) → AllTrivia lead → IsRun n put → gap (suc m) (lead ++ (put ++ rest)) ≡ lead
lead_gap n m lead put rest all run =
    trivia_lead lead (put ++ rest) all ∙ ap (λ l. lead ++ l) (run.front rest) ∙ append-nil lead

-- the sums of bytes at a step
pub upto_step : (c : ℕ) (at n : ℕ) (ts lead : List plain.Token) (token : plain.Token) (rest : List plain.Token) → ts ≡ lead ++ (token ∷ rest)
    → AllTrivia lead → is_trivia token.kind ≡ false → n ≡ suc c
    → at + bytes (upto n ts) ≡ ((at + bytes lead) + length token.text) + bytes (upto c rest)
upto_step c at n ts lead token rest e all solid count =
    let same : n ≡ 1 + c = omega (arith, count) in
    omega (
      arith,
      ap (λ l. bytes (upto l ts)) same,
      ap (λ l. bytes (upto (1 + c) l)) e,
      run_bytes 1 c lead (token ∷ []) rest all (one_run token solid),
      bytes_first token [],
    )

pub upto_put : (n c at : ℕ) (us lead put rest : List plain.Token) → us ≡ lead ++ (put ++ rest) → AllTrivia lead → IsRun n put
    → at + bytes (upto (n + c) us) ≡ ((at + bytes lead) + bytes put) + bytes (upto c rest)
upto_put n c at us lead put rest e all run =
    omega (arith, ap (λ l. bytes (upto (n + c) l)) e, run_bytes n c lead put rest all run)

-- ** Past some tokens.

pub no_bytes : (at : ℕ) (ts : List plain.Token) → at ≡ at + bytes (upto zero ts)
no_bytes at ts = omega (arith, ap bytes (upto-zero ts))

pub measured_past : (holes : Holes) (e : Ends) (number c n k at long : ℕ) (ts us : List plain.Token) → k ≡ c + n → AreMeasured holes e number k at long ts us
    → AreMeasured holes e (number + c) n (at + bytes (upto c ts)) (long + bytes (upto (filled_size holes number c) us)) (past c ts) (past (filled_size holes number c) us)
measured_past holes e number zero n k at long ts us count are =
    let same : k ≡ n = omega (arith, count) in
    let here : number ≡ number + zero = omega arith in
    subst (λ l. AreMeasured holes e l n (at + bytes (upto zero ts)) (long + bytes (upto zero us)) (past zero ts) (past zero us)) here
    (subst (λ l. AreMeasured holes e number n l (long + bytes (upto zero us)) (past zero ts) (past zero us)) (no_bytes at ts)
    (subst (λ l. AreMeasured holes e number n at l (past zero ts) (past zero us)) (no_bytes long us)
    (subst (λ l. AreMeasured holes e number n at long l (past zero us)) (sym (past-zero ts))
    (subst (λ l. AreMeasured holes e number n at long ts l) (sym (past-zero us))
    (subst (λ l. AreMeasured holes e number l at long ts us) same are)))))
measured_past holes e number (suc c) n zero at long ts us count are = absurd (omega (arith, count))
measured_past holes e number (suc c) n (suc k) at long ts us count are =
    let step = are.step in
    let m : ℕ = filled_size holes (number + 1) c in
    let size : ℕ = size_of (holes number) in
    let one = one_run step.token step.solid in
    let run = put_run (holes number) step.token step.put step.solid step.is in
    let first : 1 + c ≡ suc c = omega arith in
    let here : (number + 1) + c ≡ number + suc c = omega arith in
    let short_at : ℕ = ((at + bytes step.lead) + length step.token.text) + bytes (upto c step.short_rest) in
    let long_at : ℕ = ((long + bytes step.long_lead) + bytes step.put) + bytes (upto m step.long_rest) in
    let shorter : past (suc c) ts ≡ past c step.short_rest =
    ap (λ l. past l ts) (sym first) ∙ ap (past (1 + c)) step.short ∙ run_past 1 c step.lead (step.token ∷ []) step.short_rest step.leads one in
    let longer : past (size + m) us ≡ past m step.long_rest =
    ap (past (size + m)) step.long ∙ run_past size m step.long_lead step.put step.long_rest step.long_leads run in
    let short_is : short_at ≡ at + bytes (upto (suc c) ts) =
    sym (upto_step c at (suc c) ts step.lead step.token step.short_rest step.short step.leads step.solid refl) in
    let long_is : long_at ≡ long + bytes (upto (size + m) us) = sym (upto_put size m long us step.long_lead step.put step.long_rest step.long step.long_leads run) in
    subst (λ l. AreMeasured holes e l n (at + bytes (upto (suc c) ts)) (long + bytes (upto (size + m) us)) (past (suc c) ts) (past (size + m) us)) here
    (subst (λ l. AreMeasured holes e ((number + 1) + c) n l (long + bytes (upto (size + m) us)) (past (suc c) ts) (past (size + m) us)) short_is
    (subst (λ l. AreMeasured holes e ((number + 1) + c) n short_at l (past (suc c) ts) (past (size + m) us)) long_is
    (subst (λ l. AreMeasured holes e ((number + 1) + c) n short_at long_at l (past (size + m) us)) (sym shorter)
    (subst (λ l. AreMeasured holes e ((number + 1) + c) n short_at long_at (past c step.short_rest) l) (sym longer)
    (measured_past holes e (number + 1) c n k ((at + bytes step.lead) + length step.token.text) ((long + bytes step.long_lead) + bytes step.put)
    step.short_rest step.long_rest (omega (arith, count)) are.rest)))))

-- ** Where a node ends.

pub measured_end : (holes : Holes) (e : Ends) (number c n at long : ℕ) (ts us : List plain.Token) → suc c ≤ n → AreMeasured holes e number n at long ts us
    → (at + bytes (upto (suc c) ts) == e.to) ≡ (long + bytes (upto (filled_size holes number (suc c)) us) == e.long_to)
measured_end holes e number c zero at long ts us few are = absurd (omega (arith, few))
measured_end holes e number zero (suc n) at long ts us few are =
    let step = are.step in
    let run = put_run (holes number) step.token step.put step.solid step.is in
    let short_at : ℕ = (at + bytes step.lead) + length step.token.text in
    let long_at : ℕ = (long + bytes step.long_lead) + bytes step.put in
    ap (λ l. l == e.to) (upto_step zero at (suc zero) ts step.lead step.token step.short_rest step.short step.leads step.solid refl ∙ sym (no_bytes short_at step.short_rest))
    ∙ are.ends
    ∙ sym (ap (λ l. l == e.long_to)
    (upto_put (size_of (holes number)) zero long us step.long_lead step.put step.long_rest step.long step.long_leads run ∙ sym (no_bytes long_at step.long_rest)))
measured_end holes e number (suc c) (suc n) at long ts us few are =
    let step = are.step in
    let run = put_run (holes number) step.token step.put step.solid step.is in
    let short_at : ℕ = (at + bytes step.lead) + length step.token.text in
    let long_at : ℕ = (long + bytes step.long_lead) + bytes step.put in
    let m : ℕ = filled_size holes (number + 1) (suc c) in
    ap (λ l. l == e.to) (upto_step (suc c) at (suc (suc c)) ts step.lead step.token step.short_rest step.short step.leads step.solid refl)
    ∙ measured_end holes e (number + 1) c n short_at long_at step.short_rest step.long_rest (omega (arith, few)) are.rest
    ∙ sym (ap (λ l. l == e.long_to) (upto_put (size_of (holes number)) m long us step.long_lead step.put step.long_rest step.long step.long_leads run))

-- ** In front of a node.

-- a node that has tokens begins at the first one
pub record Begins (holes : Holes) (e : Ends) (number n c d at long : ℕ) (ts us : List plain.Token) : Type 0 where
  pub starts : (at + bytes (gap c ts) == e.from) ≡ (long + bytes (gap d us) == e.long_from)
  pub inside : AreMeasured holes e number n (at + bytes (gap c ts)) (long + bytes (gap d us)) (behind_gap c ts) (behind_gap d us)

-- without the white space and comments in front
stripped : (hole : Option Hole) (e : Ends) (Rest : ℕ → ℕ → List plain.Token → List plain.Token → Type 0) (at long a b : ℕ) (ts us : List plain.Token)
    (m : Measure hole e Rest at long ts us) → a ≡ at + bytes m.step.lead → b ≡ long + bytes m.step.long_lead
    → Measure hole e Rest a b (m.step.token ∷ m.step.short_rest) (m.step.put ++ m.step.long_rest)
stripped hole e Rest at long a b ts us m short_is long_is =
    let step = m.step in
    let x : at + bytes step.lead ≡ a + bytes [] = omega (arith, short_is) in
    let y : long + bytes step.long_lead ≡ b + bytes [] = omega (arith, long_is) in
    let size : ℕ = length step.token.text in
    let put : ℕ = bytes step.put in
    record {
      step = record {
        lead = [];
        long_lead = [];
        token = step.token;
        put = step.put;
        short_rest = step.short_rest;
        long_rest = step.long_rest;
        short = refl;
        long = refl;
        leads = tt;
        long_leads = tt;
        solid = step.solid;
        is = step.is;
        rest = tt;
      };
      starts = ap (λ l. l == e.from) (sym x) ∙ m.starts ∙ ap (λ l. l == e.long_from) y;
      ends = ap (λ l. l + size == e.to) (sym x) ∙ m.ends ∙ ap (λ l. l + put == e.long_to) y;
      apart =
          subst (λ l. IsApartFor hole e l (l + size) (b + bytes []) ((b + bytes []) + put)) x
          (subst (λ l. IsApartFor hole e (at + bytes step.lead) ((at + bytes step.lead) + size) l (l + put)) y m.apart);
      rest =
          subst (λ l. Rest (l + size) ((b + bytes []) + put) step.short_rest step.long_rest) x
          (subst (λ l. Rest ((at + bytes step.lead) + size) (l + put) step.short_rest step.long_rest) y m.rest);
    }

pub measured_gap : (holes : Holes) (e : Ends) (number c d n at long : ℕ) (ts us : List plain.Token) → suc c ≤ n → 0 < d → AreMeasured holes e number n at long ts us
    → Begins holes e number n (suc c) d at long ts us
measured_gap holes e number c zero n at long ts us few some are = absurd (omega (arith, some))
measured_gap holes e number c (suc d) zero at long ts us few some are = absurd (omega (arith, few))
measured_gap holes e number c (suc d) (suc n) at long ts us few some are =
    let step = are.step in
    let one = one_run step.token step.solid in
    let run = put_run (holes number) step.token step.put step.solid step.is in
    let short_gap : gap (suc c) ts ≡ step.lead = ap (gap (suc c)) step.short ∙ lead_gap 1 c step.lead (step.token ∷ []) step.short_rest step.leads one in
    let long_gap : gap (suc d) us ≡ step.long_lead =
    ap (gap (suc d)) step.long ∙ lead_gap (size_of (holes number)) d step.long_lead step.put step.long_rest step.long_leads run in
    let short_rest : behind_gap (suc c) ts ≡ step.token ∷ step.short_rest =
    ap (behind_gap (suc c)) step.short ∙ run_behind 1 c step.lead (step.token ∷ []) step.short_rest step.leads one in
    let long_rest : behind_gap (suc d) us ≡ step.put ++ step.long_rest =
    ap (behind_gap (suc d)) step.long ∙ run_behind (size_of (holes number)) d step.long_lead step.put step.long_rest step.long_leads run in
    let a : ℕ = at + bytes (gap (suc c) ts) in
    let b : ℕ = long + bytes (gap (suc d) us) in
    let x : a ≡ at + bytes step.lead = ap (λ l. at + bytes l) short_gap in
    let y : b ≡ long + bytes step.long_lead = ap (λ l. long + bytes l) long_gap in
    record {
      starts = ap (λ l. l == e.from) x ∙ are.starts ∙ sym (ap (λ l. l == e.long_from) y);
      inside =
          subst (λ l. AreMeasured holes e number (suc n) a b l (behind_gap (suc d) us)) (sym short_rest)
          (subst (λ l. AreMeasured holes e number (suc n) a b (step.token ∷ step.short_rest) l) (sym long_rest)
          (stripped (holes number) e (λ i j vs ws. AreMeasured holes e (number + 1) n i j vs ws) at long a b ts us are x y));
    }
