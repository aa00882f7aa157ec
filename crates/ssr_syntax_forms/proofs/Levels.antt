-- The theorems on forms, at every number of levels.
use Rattle.std.proofs.Common.{◌≡◌, ℕ, zero, suc, Bool, false, List, ◌++◌, Result, Ok, Err, refl, sym, ap, ◌∙◌}
use Rattle.ssr_syntax_forms.specs.declared.tokens.Token.{Token}
use Rattle.ssr_syntax_forms.specs.declared.fault.Fault.{Fault}
use Rattle.ssr_syntax_forms.specs.Trees.{Forest, done}
use Rattle.ssr_syntax_kinds.specs.declared.kinds.SyntaxKind.{SyntaxKind}
use Rattle.ssr_syntax_forms.specs.Parser.{Written, unwritten, State, state_of}
use Rattle.ssr_syntax_forms.specs.Written.{writes}
use Rattle.ssr_syntax_forms.specs.Forms.{Productions, in_reach, SoFar, so_far}
use Rattle.ssr_syntax_forms.specs.Levels.{read_goal}
use Rattle.ssr_syntax_forms.specs.Runs.{runs_below, run_goal}
use Rattle.ssr_syntax_forms.proofs.Results.{ok_one}
use Rattle.ssr_syntax_forms.specs.Fitting.{Fits}
use Rattle.ssr_syntax_forms.proofs.Nested.{FitsGoal, goals_by_rules}
use Rattle.ssr_syntax_forms.proofs.Soundness.{IsSound, sound}
use Rattle.ssr_syntax_forms.proofs.Spelling.{Spells, spelled, ReadsSpelled, read_spelled}
use Rattle.ssr_syntax_forms.proofs.Agreement.{RunsAsRead, agree, emit}
use Rattle.ssr_syntax_forms.proofs.Widening.{goals_of_reach}

pub goals_spell : {Goal : Type 0} (grammar : Productions Goal) (n : ℕ) → Spells (FitsGoal grammar n)
unfolding FitsGoal
goals_spell grammar zero goal y us rest f = absurd f
goals_spell grammar (suc n) goal y us rest f =
    spelled (FitsGoal grammar n) (goals_spell grammar n) (grammar goal) done y us rest f

pub goals_read_spelled : {Goal : Type 0} (grammar : Productions Goal) (n : ℕ) → ReadsSpelled (read_goal grammar n)
unfolding read_goal
goals_read_spelled grammar zero goal ts r e = cc
goals_read_spelled grammar (suc n) goal ts r e =
    read_spelled (read_goal grammar n) (goals_read_spelled grammar n) (grammar goal) (so_far done ts) r e

pub goals_sound : {Goal : Type 0} (grammar : Productions Goal) (n : ℕ) → IsSound (FitsGoal grammar n) (read_goal grammar n)
unfolding FitsGoal read_goal
goals_sound grammar zero goal ts r e = cc
goals_sound grammar (suc n) goal ts r e =
    sound (FitsGoal grammar n) (read_goal grammar n) (goals_sound grammar n) (grammar goal) (so_far done ts) r e

pub goals_agree : {Goal : Type 0} (grammar : Productions Goal) (n : ℕ) → RunsAsRead (runs_below false (run_goal false grammar n)) (read_goal grammar n)
unfolding read_goal run_goal
goals_agree grammar zero = record { stated = refl; as_read = λ goal out ts. refl }
goals_agree grammar (suc n) = record {
  stated = refl;
  as_read = λ goal out ts.
      agree (runs_below false (run_goal false grammar n)) (read_goal grammar n) (goals_agree grammar n) (goals_read_spelled grammar n)
      (grammar goal) out ts (so_far done ts) refl;
}

-- ** What a run tells of what is read.

from_written : (out : Written) (red : Result SoFar Fault) (new : State) → emit out red ≡ Ok new
    → (z : Forest) × (red ≡ Ok (so_far z new.rest)) × (new.out ≡ writes z out)
from_written out (Ok r) new e =
    let same : state_of (writes r.made out) r.rest ≡ new = ok_one e in
    (r.made, ap (λ w. Ok (so_far r.made w)) (ap (λ w. w.rest) same), sym (ap (λ w. w.out) same))
from_written out (Err f) new e = cc

from_fault : (out : Written) (red : Result SoFar Fault) (f : Fault) → emit out red ≡ Err f → red ≡ Err f
from_fault out (Ok r) f e = cc
from_fault out (Err g) f e = cc

from_run : {Goal : Type 0} (is_whole : Bool) (grammar : Productions Goal) (n : ℕ) (goal : Goal) (out : Written) (ts : List Token) (old : State) (ran : Result State Fault)
    → old ≡ state_of out ts → run_goal is_whole grammar n goal old ≡ ran → emit out (read_goal (in_reach is_whole grammar) n goal ts) ≡ ran
from_run is_whole grammar n goal out ts old ran start e =
    sym ((goals_agree (in_reach is_whole grammar) n).as_read goal out ts)
    ∙ ap (run_goal false (in_reach is_whole grammar) n goal) (sym start)
    ∙ sym (goals_of_reach is_whole grammar n goal old) ∙ e

pub read_as_run : {Goal : Type 0} (is_whole : Bool) (grammar : Productions Goal) (n : ℕ) (goal : Goal) (out : Written) (ts : List Token) (old new : State)
    → old ≡ state_of out ts → run_goal is_whole grammar n goal old ≡ Ok new
    → (z : Forest) × (read_goal (in_reach is_whole grammar) n goal ts ≡ Ok (so_far z new.rest)) × (new.out ≡ writes z out)
read_as_run is_whole grammar n goal out ts old new start e =
    from_written out (read_goal (in_reach is_whole grammar) n goal ts) new (from_run is_whole grammar n goal out ts old (Ok new) start e)

pub refused_as_run : {Goal : Type 0} (is_whole : Bool) (grammar : Productions Goal) (n : ℕ) (goal : Goal) (out : Written) (ts : List Token) (old : State) (f : Fault)
    → old ≡ state_of out ts → run_goal is_whole grammar n goal old ≡ Err f → read_goal (in_reach is_whole grammar) n goal ts ≡ Err f
refused_as_run is_whole grammar n goal out ts old f start e =
    from_fault out (read_goal (in_reach is_whole grammar) n goal ts) f (from_run is_whole grammar n goal out ts old (Err f) start e)

-- ** What a run from the start says of what fits.

pub fits_as_run : {Goal : Type 0} (is_whole : Bool) (grammar : Productions Goal) (n : ℕ) (goal : Goal) (kinds : List SyntaxKind) (ts : List Token) (new : State)
    → run_goal is_whole grammar n goal (state_of (unwritten kinds) ts) ≡ Ok new
    → (z : Forest) × (us : List Token) × Fits (in_reach is_whole grammar) (in_reach is_whole grammar goal) done z us new.rest × (ts ≡ us ++ new.rest)
    × (new.out ≡ writes z (unwritten kinds))
fits_as_run is_whole grammar n goal kinds ts new e =
    let m = read_as_run is_whole grammar n goal (unwritten kinds) ts (state_of (unwritten kinds) ts) new refl e in
    let s = goals_sound (in_reach is_whole grammar) n goal ts (so_far m.0 new.rest) m.1 in
    (m.0, s.0, goals_by_rules (in_reach is_whole grammar) n goal m.0 s.0 new.rest s.2, s.1, m.2)

pub refused_at_start : {Goal : Type 0} (is_whole : Bool) (grammar : Productions Goal) (n : ℕ) (goal : Goal) (kinds : List SyntaxKind) (ts : List Token) (f : Fault)
    → run_goal is_whole grammar n goal (state_of (unwritten kinds) ts) ≡ Err f → read_goal (in_reach is_whole grammar) n goal ts ≡ Err f
refused_at_start is_whole grammar n goal kinds ts f e =
    refused_as_run is_whole grammar n goal (unwritten kinds) ts (state_of (unwritten kinds) ts) f refl e
