-- What the parser does for a form. Of a whole reading, `proofs/Levels` ties it to what fits.
use Rattle.std.specs.Prelude.{Bool, ℕ, zero, suc, if◌then◌else◌, Result, Ok, Err}
use Rattle.ssr_syntax_forms.specs.declared.fault.Fault.{Fault}
use Rattle.ssr_syntax_forms.specs.declared.fault.Fault.TheVariants as faults
use Rattle.ssr_syntax_forms.specs.Forms.{Form, one, child, mark, seal, ◌then◌, nothing, choose, many, look, check, wide, Productions, passes, agrees, holds, ◌>>=◌}
use Rattle.ssr_syntax_forms.specs.Parser.{State, Mark, mark_of, since, taken, close, repeated, Steps}

-- what is done for the goals one level below, and whether all of Rust is read
pub record RunsBelow (Goal : Type 0) : Type 0 where
  pub is_whole : Bool
  pub runs : Goal → State → Result State Fault

abbrev pub runs_below : {Goal : Type 0} → Bool → (Goal → State → Result State Fault) → RunsBelow Goal
runs_below is_whole runs = record { is_whole = is_whole; runs = runs }

abbrev pub run : {Goal : Type 0} → RunsBelow Goal → Form Goal → Mark → State → Result State Fault
run below (one whole ks) m s = taken whole ks s
run below (child goal) m s = below.runs goal s
run below (mark f) m s = run below f (mark_of s) s
run below (seal kind) m s = Ok (close kind m s)
run below (f then g) m s = run below f m s >>= run below g m
run below nothing m s = Ok s
run below (choose test f g) m s = if passes test s.rest then run below f m s else run below g m s
run below (many test f) m s = repeated test (run below f m) s
run below (look want test) m s = if agrees want (passes test s.rest) then Ok s else Err faults.NoTree
run below (check condition) m s =
    if holds condition (since m s) then Ok s else Err faults.NoTree
run below (wide f g) m s = if below.is_whole then run below f m s else run below g m s

-- where a node begins
abbrev pub run_marked : {Goal : Type 0} → RunsBelow Goal → Form Goal → State → Result State Fault
run_marked below f s = run below f (mark_of s) s

-- with so many levels of goals
unfoldable pub run_goal : {Goal : Type 0} → Bool → Productions Goal → ℕ → Goal → State → Result State Fault
run_goal is_whole grammar zero goal s = Err faults.TooDeep
run_goal is_whole grammar (suc n) goal s = run (runs_below is_whole (run_goal is_whole grammar n)) (grammar goal) (mark_of s) s

-- ** What the functions answer.

-- The function reads the form from one state to the other.
abbrev pub Runs : {Goal : Type 0} → {R : Type 0} → RunsBelow Goal → Form Goal → State → State → Result R Fault → Type 0
Runs below form old new r = Steps new r (run_marked below form old)

-- The same of a form that goes on with what is made since a mark.
abbrev pub RunsFrom : {Goal : Type 0} → {R : Type 0} → RunsBelow Goal → Form Goal → Mark → State → State → Result R Fault → Type 0
RunsFrom below form m old new r = Steps new r (run below form m old)

-- The same of a form that puts nothing since the mark into a node.
abbrev pub RunsAnywhere : {Goal : Type 0} → {R : Type 0} → RunsBelow Goal → Form Goal → State → State → Result R Fault → Type 0
RunsAnywhere below form old new r = (m : Mark) → RunsFrom below form m old new r
