-- The ranks of which the next token is not are passed over.
use Rattle.std.proofs.Common.{◌≡◌, ◌≢◌, ℕ, zero, suc, ◌+◌, ◌-◌, ◌<◌, ◌≤◌, eqb, Bool, true, false, ◌&&◌, List, [], ◌∷◌, length, Result, Ok, Err, inl, inr, refl, sym, ap, ◌∙◌, arith}
use Rattle.std.proofs.lemmas.Bool.{eqb-true, and_parts, cases_Bool, or_cases}
use Rattle.ssr_syntax_kinds.specs.declared.kinds.SyntaxKind.{SyntaxKind}
use Rattle.ssr_syntax_kinds.specs.Kinds.{same_kind}
use Rattle.ssr_syntax_kinds.proofs.Shared.{same_kind-equal}
use Rattle.ssr_syntax_forms.specs.declared.tokens.Token.{Token}
use Rattle.ssr_syntax_types.specs.declared.goals.Goal.{Goal}
use Rattle.ssr_syntax_types.specs.declared.goals.ExprPlace.{ExprPlace}
use Rattle.ssr_syntax_forms.specs.declared.fault.Fault.{Fault}
use Rattle.ssr_syntax_forms.specs.Kinds.{mem}
use Rattle.ssr_syntax_forms.specs.Forms.{at, next, passes, repeat, ◌>>=◌}
use Rattle.ssr_syntax_forms.specs.Parser.{State, Mark, repeated}
use Rattle.ssr_syntax_forms.specs.Runs.{RunsBelow, run}
use Rattle.ssr_syntax_exprs.specs.Expressions.{ranks, row, operators, operation, operations, climb, casts, at_most}
use Rattle.ssr_syntax_exprs.specs.Private.Ranks.{rank_of, next_rank}
use Rattle.ssr_syntax_forms.proofs.Shared.{at_next}

-- ** The two tables are one.

abbrev all_of_rank : ℕ → List SyntaxKind → Bool
all_of_rank r [] = true
all_of_rank r (k ∷ ks) = eqb (rank_of k) r && all_of_rank r ks

abbrev in_order : ℕ → List (List SyntaxKind) → Bool
in_order r [] = true
in_order r (ks ∷ rows) = all_of_rank r ks && in_order (suc r) rows

of_rank : (r : ℕ) (kind : SyntaxKind) (ks : List SyntaxKind) → all_of_rank r ks ≡ true → mem kind ks ≡ true → rank_of kind ≡ r
of_rank r kind [] all h = cc
of_rank r kind (k ∷ ks) all h =
    let b = and_parts (eqb (rank_of k) r) (all_of_rank r ks) all in
    elim (or_cases (same_kind kind k) (mem kind ks) h) [
      | inl e ↦ ap rank_of (same_kind-equal kind k e) ∙ eqb-true (rank_of k) r b.0
      | inr m ↦ of_rank r kind ks b.1 m
    ]

in_row : (first r : ℕ) (rows : List (List SyntaxKind)) (kind : SyntaxKind) → in_order first rows ≡ true
    → mem kind (row r rows) ≡ true → rank_of kind ≡ first + r
in_row first r [] kind all h = cc
in_row first zero (ks ∷ rows) kind all h =
    let same = of_rank first kind ks (and_parts (all_of_rank first ks) (in_order (suc first) rows) all).0 h in omega (arith, same)
in_row first (suc r) (ks ∷ rows) kind all h =
    let same = in_row (suc first) r rows kind (and_parts (all_of_rank first ks) (in_order (suc first) rows) all).1 h in omega (arith, same)

of_operator : (r : ℕ) (kind : SyntaxKind) → mem kind (operators r) ≡ true → rank_of kind ≡ r
unfolding operators
of_operator r kind h = let same = in_row 0 r ranks kind refl h in omega (arith, same)

-- no operator of another rank is next
not_next : (r : ℕ) (ts : List Token) → next_rank ts ≢ r → passes (at (operators r)) ts ≡ false
not_next r ts other =
    elim (cases_Bool (mem (next ts) (operators r))) [
      | inl hit ↦ absurd (other (of_operator r (next ts) hit))
      | inr miss ↦ at_next (operators r) ts ∙ miss
    ]

-- ** Ranks from one on, one after another.

-- the operations of so many ranks, from the first on
abbrev pub climb_from : ExprPlace → RunsBelow Goal → Mark → ℕ → ℕ → State → Result State Fault
climb_from place below m first zero s = Ok s
climb_from place below m first (suc n) s = run below (operations place first) m s >>= climb_from place below m (suc first) n

no_turn : (fuel : ℕ) (r n : ℕ) (step : State → Result State Fault) (s : State) → fuel ≡ suc n → passes (at (operators r)) s.rest ≡ false
    → repeat (λ z. z.rest) fuel (at (operators r)) step s ≡ Ok s
no_turn fuel r n step s e miss = rw (e, miss) refl

passed_over : (place : ExprPlace) (below : RunsBelow Goal) (m : Mark) (r : ℕ) (s : State) → next_rank s.rest ≢ r → run below (operations place r) m s ≡ Ok s
unfolding operations repeated
passed_over place below m r s other =
    no_turn (length s.rest + 1) r (length s.rest) (run below (operation place r) m) s (omega arith) (not_next r s.rest other)

-- no rank of so many is next
all_passed_over : (place : ExprPlace) (below : RunsBelow Goal) (m : Mark) (first n : ℕ) (s : State)
    → ((r : ℕ) → first ≤ r → r < first + n → next_rank s.rest ≢ r) → climb_from place below m first n s ≡ Ok s
all_passed_over place below m first zero s none = refl
all_passed_over place below m first (suc n) s none =
    ap (λ w. w >>= climb_from place below m (suc first) n) (passed_over place below m first s (none first (omega arith) (omega arith)))
    ∙ all_passed_over place below m (suc first) n s (λ r low high. none r (omega (arith, low)) (omega (arith, high)))

same_climb : (place : ExprPlace) (below : RunsBelow Goal) (m : Mark) (first first' n n' : ℕ) (s : State) → first ≡ first' → n ≡ n'
    → climb_from place below m first n s ≡ climb_from place below m first' n' s
same_climb place below m first first' n n' s e d = rw (e, d) refl

climb_one : (place : ExprPlace) (below : RunsBelow Goal) (m : Mark) (first total n : ℕ) (s : State) → total ≡ suc n
    → climb_from place below m first total s ≡ (run below (operations place first) m s >>= climb_from place below m (suc first) n)
climb_one place below m first total n s e = rw e refl

-- up to the rank that is next
climbed_to : (place : ExprPlace) (below : RunsBelow Goal) (m : Mark) (first skipped n total : ℕ) (s : State) → total ≡ skipped + n
    → ((r : ℕ) → first ≤ r → r < first + skipped → next_rank s.rest ≢ r)
    → climb_from place below m first total s ≡ climb_from place below m (first + skipped) n s
climbed_to place below m first zero n total s e none = same_climb place below m first (first + zero) total n s (omega arith) (omega (arith, e))
climbed_to place below m first (suc skipped) n total s e none =
    climb_one place below m first total (skipped + n) s (omega (arith, e))
    ∙ ap (λ w. w >>= climb_from place below m (suc first) (skipped + n)) (passed_over place below m first s (none first (omega arith) (omega arith)))
    ∙ climbed_to place below m (suc first) skipped n (skipped + n) s refl (λ r low high. none r (omega (arith, low)) (omega (arith, high)))
    ∙ same_climb place below m (suc first + skipped) (first + suc skipped) n n s (omega arith) refl

pub turn : (place : ExprPlace) (below : RunsBelow Goal) (m : Mark) (rank limit next : ℕ) (s : State) → next ≡ next_rank s.rest → rank ≤ next → next < limit
    → climb_from place below m rank (limit - rank) s ≡ (run below (operations place next) m s >>= climb_from place below m (next + 1) (limit - (next + 1)))
turn place below m rank limit next s e low high =
    let here : rank + (next - rank) ≡ next = omega (arith, low) in
    let step : suc next ≡ next + 1 = omega arith in
    climbed_to place below m rank (next - rank) (limit - next) (limit - rank) s (omega (arith, low, high))
    (λ r above under same. absurd (omega (arith, e, low, above, under, same)))
    ∙ same_climb place below m (rank + (next - rank)) next (limit - next) (limit - next) s here refl
    ∙ climb_one place below m next (limit - next) (limit - (next + 1)) s (omega (arith, high))
    ∙ ap (λ k. run below (operations place next) m s >>= climb_from place below m k (limit - (next + 1))) step

pub stop_low : (place : ExprPlace) (below : RunsBelow Goal) (m : Mark) (rank limit next : ℕ) (s : State) → next ≡ next_rank s.rest → next < rank
    → climb_from place below m rank (limit - rank) s ≡ Ok s
stop_low place below m rank limit next s e low =
    all_passed_over place below m rank (limit - rank) s (λ r above under same. absurd (omega (arith, e, low, above, under, same)))

pub stop_high : (place : ExprPlace) (below : RunsBelow Goal) (m : Mark) (rank limit next : ℕ) (s : State) → next ≡ next_rank s.rest → limit ≤ next
    → climb_from place below m rank (limit - rank) s ≡ Ok s
stop_high place below m rank limit next s e high =
    all_passed_over place below m rank (limit - rank) s (λ r above under same. absurd (omega (arith, e, high, above, under, same)))

pub stop_end : (place : ExprPlace) (below : RunsBelow Goal) (m : Mark) (rank limit : ℕ) (s : State) → limit ≤ rank → climb_from place below m rank (limit - rank) s ≡ Ok s
stop_end place below m rank limit s end = same_climb place below m rank rank (limit - rank) 0 s refl (omega (arith, end))

-- ** All ranks of the form, behind casts.

bind_each : (r : Result State Fault) (f g h : State → Result State Fault) → ((x : State) → f x ≡ (g x >>= h)) → (r >>= f) ≡ ((r >>= g) >>= h)
bind_each (Ok x) f g h e = e x
bind_each (Err x) f g h e = refl

bind_end : (r : Result State Fault) → (r >>= (λ s. Ok s)) ≡ r
bind_end (Ok x) = refl
bind_end (Err x) = refl

climb_last : (place : ExprPlace) (below : RunsBelow Goal) (m : Mark) (first n last : ℕ) (s : State) → last ≡ first + n
    → climb_from place below m first (suc n) s ≡ (climb_from place below m first n s >>= run below (operations place last) m)
climb_last place below m first zero last s e =
    let same : first ≡ last = omega (arith, e) in
    bind_end (run below (operations place first) m s) ∙ ap (λ k. run below (operations place k) m s) same
climb_last place below m first (suc n) last s e =
    bind_each (run below (operations place first) m s) (climb_from place below m (suc first) (suc n)) (climb_from place below m (suc first) n) (run below (operations place last) m)
    (λ x. climb_last place below m (suc first) n last x (omega (arith, e)))

climbs : (place : ExprPlace) (below : RunsBelow Goal) (n : ℕ) (m : Mark) (s : State)
    → run below (climb place n) m s ≡ (run below casts m s >>= climb_from place below m 0 n)
unfolding climb
climbs place below zero m s = sym (bind_end (run below casts m s))
climbs place below (suc n) m s =
    ap (λ w. w >>= run below (operations place n) m) (climbs place below n m s)
    ∙ sym
    (bind_each (run below casts m s) (climb_from place below m 0 (suc n)) (climb_from place below m 0 n) (run below (operations place n) m)
    (λ x. climb_last place below m 0 n n x (omega arith)))

pub form_climbs : (place : ExprPlace) (below : RunsBelow Goal) (n : ℕ) (m : Mark) (s : State)
    → run below (climb place n) m s ≡ (run below casts m s >>= climb_from place below m 0 (n - 0))
form_climbs place below n m s =
    let same : n ≡ n - 0 = omega arith in
    climbs place below n m s ∙ ap (λ k. run below casts m s >>= climb_from place below m 0 k) same

-- ** Numbers of ranks.

no_row : (r : ℕ) (rows : List (List SyntaxKind)) → length rows ≤ r → ◌≡◌ {A = List SyntaxKind} [] (row r rows)
no_row r [] h = refl
no_row zero (ks ∷ rows) h = absurd (omega (arith, h))
no_row (suc r) (ks ∷ rows) h = no_row r rows (omega (arith, h))

pub no_operators : (r : ℕ) → length ranks ≤ r → ◌≡◌ {A = List SyntaxKind} [] (operators r)
unfolding operators
no_operators r h = no_row r ranks h

few_rows : (r : ℕ) (rows : List (List SyntaxKind)) → r < length rows → r ≡ at_most r rows
few_rows r [] h = absurd (omega (arith, h))
few_rows zero (ks ∷ rows) h = refl
few_rows (suc r) (ks ∷ rows) h = omega (arith, few_rows r rows (omega (arith, h)))

pub few_ranks : (r : ℕ) → r < length ranks → r ≡ at_most r ranks
few_ranks r h = few_rows r ranks h

all_rows : (r : ℕ) (rows : List (List SyntaxKind)) → length rows ≤ r → length rows ≡ at_most r rows
all_rows r [] h = refl
all_rows zero (ks ∷ rows) h = absurd (omega (arith, h))
all_rows (suc r) (ks ∷ rows) h = omega (arith, all_rows r rows (omega (arith, h)))

pub all_ranks : (r : ℕ) → length ranks ≤ r → length ranks ≡ at_most r ranks
all_ranks r h = all_rows r ranks h
