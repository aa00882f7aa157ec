-- The run of a grammar in a reach is the run of that reach's grammar in the stated language.
use Rattle.std.proofs.Common.{◌≡◌, ℕ, zero, suc, ◌+◌, Bool, true, false, if◌then◌else◌, List, length, Result, Ok, Err, inl, inr, refl, sym, ap, ◌∙◌}
use Rattle.std.proofs.lemmas.Bool.{cases_Bool}
use Rattle.ssr_syntax_kinds.specs.declared.kinds.SyntaxKind.{SyntaxKind}
use Rattle.ssr_syntax_forms.specs.declared.fault.Fault.{Fault}
use Rattle.ssr_syntax_forms.specs.declared.fault.Fault.TheVariants as faults
use Rattle.ssr_syntax_forms.specs.Forms.{Productions, Form, one, child, mark, seal, ◌then◌, nothing, choose, many, look, check, wide, Test, at, also, also_decide, settle, choose_by, look_by, repeated_by, as_long_as, as_long_as_by, comma_by, comma_list, comma_list_by, widened, in_reach, passes, agrees, holds, repeat, ◌>>=◌}
use Rattle.ssr_syntax_forms.specs.Parser.{State, Mark, mark_of, since, repeated, comma, comma_separated}
use Rattle.ssr_syntax_forms.specs.Runs.{RunsBelow, runs_below, run, run_goal}
use Rattle.ssr_syntax_forms.proofs.Loops.{run_as_long_as, run_comma_list, run_decide}

-- ** Words by the reach.
by_cases : {A : Type 0} (b : Bool) (x : Bool → A) → (if b then x true else x false) ≡ x b
by_cases true x = refl
by_cases false x = refl

other_way : {A : Type 0} (b c : Bool) (x y : A) → (if b then (if c then x else y) else y) ≡ (if c then (if b then x else y) else y)
other_way true true x y = refl
other_way true false x y = refl
other_way false true x y = refl
other_way false false x y = refl

pub run_also : {Goal : Type 0} (below : RunsBelow Goal) (first : List SyntaxKind) (f g : Form Goal) (m : Mark) (s : State)
    → run below (also first f g) m s ≡ (if passes (at first) s.rest then (if below.is_whole then run below f m s else run below g m s) else run below g m s)
unfolding also
run_also below first f g m s = other_way below.is_whole (passes (at first) s.rest) (run below f m s) (run below g m s)

pub run_also_decide : {Goal : Type 0} (below : RunsBelow Goal) (test : Test) (f g : Form Goal) (m : Mark) (s : State)
    → run below (also_decide test f g) m s ≡ (if below.is_whole then (if passes test s.rest then run below f m s else run below g m s) else run below g m s)
unfolding also_decide
run_also_decide below test f g m s = ap (λ r. if below.is_whole then r else run below g m s) (run_decide below test f g m s)

either_way : {A : Type 0} (b : Bool) (x : A) → (if b then x else x) ≡ x
either_way true x = refl
either_way false x = refl

pub run_settle : {Goal : Type 0} (below : RunsBelow Goal) (first : List SyntaxKind) (f g : Form Goal) (m : Mark) (s : State)
    → run below (settle first f g) m s ≡ (if passes (at first) s.rest then run below f m s else run below g m s)
unfolding settle
run_settle below first f g m s =
    let told : Result State Fault = if passes (at first) s.rest then run below f m s else run below g m s in
    ap (λ r. if below.is_whole then r else told) (run_decide below (at first) f g m s) ∙ either_way below.is_whole told

pub run_choose_by : {Goal : Type 0} (below : RunsBelow Goal) (first : Bool → List SyntaxKind) (f g : Form Goal) (m : Mark) (s : State)
    → run below (choose_by first f g) m s ≡ (if passes (at (first below.is_whole)) s.rest then run below f m s else run below g m s)
unfolding choose_by
run_choose_by below first f g m s =
    by_cases below.is_whole (λ b. if passes (at (first b)) s.rest then run below f m s else run below g m s)

pub run_look_by : {Goal : Type 0} (below : RunsBelow Goal) (want : Bool) (first : Bool → List SyntaxKind) (m : Mark) (s : State)
    → run below (look_by want first) m s ≡ (if agrees want (passes (at (first below.is_whole)) s.rest) then Ok s else Err faults.NoTree)
unfolding look_by
run_look_by below want first m s =
    by_cases below.is_whole (λ b. if agrees want (passes (at (first b)) s.rest) then Ok s else Err faults.NoTree)

pub run_repeated_by : {Goal : Type 0} (below : RunsBelow Goal) (first : Bool → List SyntaxKind) (f : Form Goal) (m : Mark) (s : State)
    → run below (repeated_by first f) m s ≡ repeated (at (first below.is_whole)) (run below f m) s
unfolding repeated_by
run_repeated_by below first f m s = by_cases below.is_whole (λ b. repeated (at (first b)) (run below f m) s)

pub run_as_long_as_by : {Goal : Type 0} (below : RunsBelow Goal) (test : Bool → Test) (f : Form Goal) (m : Mark) (s : State)
    → run below (as_long_as_by test f) m s ≡ repeated (test below.is_whole) (run below f m) s
unfolding as_long_as_by
run_as_long_as_by below test f m s =
    by_cases below.is_whole (λ b. run below (as_long_as (test b) f) m s) ∙ run_as_long_as below (test below.is_whole) f m s

pub run_comma_by : {Goal : Type 0} (below : RunsBelow Goal) (first : Bool → List SyntaxKind) (m : Mark) (s : State)
    → run below (comma_by first) m s ≡ comma (first below.is_whole) s
unfolding comma_by
run_comma_by below first m s = by_cases below.is_whole (λ b. comma (first b) s)

pub run_comma_list_by : {Goal : Type 0} (below : RunsBelow Goal) (first : Bool → List SyntaxKind) (item : Form Goal) (m : Mark) (s : State)
    → run below (comma_list_by first item) m s ≡ comma_separated (first below.is_whole) (run below item m) s
unfolding comma_list_by
run_comma_list_by below first item m s =
    by_cases below.is_whole (λ b. run below (comma_list (first b) item) m s) ∙ run_comma_list below (first below.is_whole) item m s

-- ** All of Rust is run as its own grammar.
-- the one runs all of Rust, the other one a stated language, with the same goals
record IsWidened {Goal : Type 0} (below other : RunsBelow Goal) : Type 0 where
  whole : below.is_whole ≡ true
  same : (goal : Goal) (s : State) → below.runs goal s ≡ other.runs goal s

bind_alike : (q r : Result State Fault) (f g : State → Result State Fault) → q ≡ r → ((s : State) → f s ≡ g s) → (q >>= f) ≡ (r >>= g)
bind_alike (Ok s) r f g e same = same s ∙ ap (λ w. w >>= g) e
bind_alike (Err x) r f g e same = ap (λ w. w >>= g) e

repeat_alike : (test : Test) (f g : State → Result State Fault) → ((s : State) → f s ≡ g s) → (n : ℕ) (s : State)
    → repeat (λ z. z.rest) n test f s ≡ repeat (λ z. z.rest) n test g s
repeat_alike test f g same zero s = refl
repeat_alike test f g same (suc n) s =
    elim (cases_Bool (passes test s.rest)) [
      | inl hit ↦ rw hit (bind_alike (f s) (g s) (repeat (λ z. z.rest) n test f) (repeat (λ z. z.rest) n test g) (same s) (repeat_alike test f g same n))
      | inr miss ↦ rw miss refl
    ]

run_widened : {Goal : Type 0} (below other : RunsBelow Goal) → IsWidened below other → (form : Form Goal) (m : Mark) (s : State)
    → run below form m s ≡ run other (widened form) m s
unfolding repeated
run_widened below other h (one whole ks) m s = refl
run_widened below other h (child goal) m s = h.same goal s
run_widened below other h (mark f) m s = run_widened below other h f (mark_of s) s
run_widened below other h (seal kind) m s = refl
run_widened below other h (f then g) m s =
    bind_alike (run below f m s) (run other (widened f) m s) (run below g m) (run other (widened g) m)
    (run_widened below other h f m s) (run_widened below other h g m)
run_widened below other h nothing m s = refl
run_widened below other h (choose test f g) m s =
    elim (cases_Bool (passes test s.rest)) [
      | inl hit ↦ rw hit (run_widened below other h f m s)
      | inr miss ↦ rw miss (run_widened below other h g m s)
    ]
run_widened below other h (many test f) m s =
    repeat_alike test (run below f m) (run other (widened f) m) (run_widened below other h f m) (length s.rest + 1) s
run_widened below other h (look want test) m s = refl
run_widened below other h (check condition) m s = refl
run_widened below other h (wide f g) m s =
    ap (λ b. if b then run below f m s else run below g m s) h.whole ∙ run_widened below other h f m s

pub goals_of_reach : {Goal : Type 0} (is_whole : Bool) (grammar : Productions Goal) (n : ℕ) (goal : Goal) (s : State)
    → run_goal is_whole grammar n goal s ≡ run_goal false (in_reach is_whole grammar) n goal s
unfolding run_goal
goals_of_reach false grammar n goal s = refl
goals_of_reach true grammar zero goal s = refl
goals_of_reach true grammar (suc n) goal s =
    run_widened (runs_below true (run_goal true grammar n)) (runs_below false (run_goal false (in_reach true grammar) n))
    (record { whole = refl; same = goals_of_reach true grammar n }) (grammar goal) (mark_of s) s
