-- One turn of a loop, and its end; lists of items.
use Rattle.std.proofs.Common.{◌≡◌, true, length, ℕ, zero, suc, ◌+◌, ◌-◌, ◌<◌, if◌then◌else◌, List, Result, Ok, Err, inl, inr, refl, ap, ◌∙◌, false, arith}
use Rattle.std.proofs.lemmas.Bool.{cases_Bool}
use Rattle.ssr_syntax_kinds.specs.declared.kinds.SyntaxKind.{SyntaxKind}
use Rattle.ssr_syntax_forms.specs.declared.fault.Fault.{Fault}
use Rattle.ssr_syntax_forms.specs.declared.fault.Fault.TheVariants as faults
use Rattle.ssr_syntax_forms.specs.Forms.{Form, Test, ◌then◌, look, decide, as_long_as, comma_list, passes, agrees, repeat, ◌>>=◌}
use Rattle.ssr_syntax_forms.specs.Parser.{State, Mark, repeated, comma_separated}
use Rattle.ssr_syntax_forms.specs.Runs.{RunsBelow, run}

repeat_suc : (n : ℕ) (test : Test) (step : State → Result State Fault) (s : State) (m : ℕ) → m ≡ suc n
    → repeat (λ z. z.rest) m test step s ≡ (if passes test s.rest then step s >>= repeat (λ z. z.rest) n test step else Ok s)
repeat_suc n test step s m e = rw e refl

repeat_zero : (test : Test) (step : State → Result State Fault) (s : State) (m : ℕ) → m ≡ zero
    → repeat (λ z. z.rest) m test step s ≡ Err faults.NoTree
repeat_zero test step s m e = rw e refl

pub repeat_step : (total turn : ℕ) (test : Test) (step : State → Result State Fault) (s : State) → turn < total
    → repeat (λ z. z.rest) (total - turn) test step s
    ≡ (if passes test s.rest then step s >>= repeat (λ z. z.rest) (total - (turn + 1)) test step else Ok s)
repeat_step total turn test step s lt = repeat_suc (total - (turn + 1)) test step s (total - turn) (omega arith)

pub repeat_end : (total : ℕ) (test : Test) (step : State → Result State Fault) (s : State)
    → repeat (λ z. z.rest) (total - total) test step s ≡ Err faults.NoTree
repeat_end total test step s = repeat_zero test step s (total - total) (omega arith)

-- a choice that is decided is one by its test
pub run_decide : {Goal : Type 0} (below : RunsBelow Goal) (test : Test) (f g : Form Goal) (m : Mark) (s : State)
    → run below (decide test f g) m s ≡ (if passes test s.rest then run below f m s else run below g m s)
run_decide below test f g m s =
    elim (cases_Bool (passes test s.rest)) [ inl hit ↦ rw hit refl | inr miss ↦ rw miss refl ]

bind_same : (r : Result State Fault) (f g : State → Result State Fault) → ((s : State) → f s ≡ g s) → (r >>= f) ≡ (r >>= g)
bind_same (Ok s) f g same = same s
bind_same (Err e) f g same = refl

-- a turn that asks for the test once more is that turn
asked_turns : {Goal : Type 0} (below : RunsBelow Goal) (test : Test) (f : Form Goal) (m : Mark) (n : ℕ) (s : State)
    → repeat (λ z. z.rest) n test (run below (look true test then f) m) s ≡ repeat (λ z. z.rest) n test (run below f m) s
asked_turns below test f m zero s = refl
asked_turns below test f m (suc n) s =
    elim (cases_Bool (passes test s.rest)) [
      | inl hit ↦ rw hit
          (bind_same (run below f m s) (repeat (λ z. z.rest) n test (run below (look true test then f) m)) (repeat (λ z. z.rest) n test (run below f m))
          (asked_turns below test f m n))
      | inr miss ↦ rw miss refl
    ]

-- behind a loop the test fails
bind_ends : (r : Result State Fault) (f g : State → Result State Fault) → ((s : State) → (f s >>= g) ≡ f s) → ((r >>= f) >>= g) ≡ (r >>= f)
bind_ends (Ok s) f g same = same s
bind_ends (Err e) f g same = refl

abbrev unless_passes : Test → State → Result State Fault
unless_passes test s = if agrees false (passes test s.rest) then Ok s else Err faults.NoTree

loop_ends : (test : Test) (step : State → Result State Fault) (n : ℕ) (s : State)
    → (repeat (λ z. z.rest) n test step s >>= unless_passes test) ≡ repeat (λ z. z.rest) n test step s
loop_ends test step zero s = refl
loop_ends test step (suc n) s =
    elim (cases_Bool (passes test s.rest)) [
      | inl hit ↦ rw hit (bind_ends (step s) (repeat (λ z. z.rest) n test step) (unless_passes test) (loop_ends test step n))
      | inr miss ↦ rw (miss, miss) refl
    ]

pub run_as_long_as : {Goal : Type 0} (below : RunsBelow Goal) (test : Test) (f : Form Goal) (m : Mark) (s : State)
    → run below (as_long_as test f) m s ≡ repeated test (run below f m) s
unfolding as_long_as repeated
run_as_long_as below test f m s =
    ap (λ r. r >>= unless_passes test) (asked_turns below test f m (length s.rest + 1) s)
    ∙ loop_ends test (run below f m) (length s.rest + 1) s

-- a list is what its items and commas do
pub run_comma_list : {Goal : Type 0} (below : RunsBelow Goal) (first : List SyntaxKind) (item : Form Goal) (m : Mark) (s : State)
    → run below (comma_list first item) m s ≡ comma_separated first (run below item m) s
unfolding comma_list comma_separated
run_comma_list below first item m s = refl
