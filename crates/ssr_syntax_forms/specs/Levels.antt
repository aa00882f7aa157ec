-- Goals by levels: a goal that a form asks for is one level below.
use Rattle.std.specs.Prelude.{ℕ, zero, suc, Err}
use Rattle.ssr_syntax_forms.specs.declared.fault.Fault.TheVariants as faults
use Rattle.ssr_syntax_forms.specs.Trees.{done}
use Rattle.ssr_syntax_forms.specs.Forms.{Productions, ReadsBelow, read, so_far}

unfoldable pub read_goal : {Goal : Type 0} → Productions Goal → ℕ → ReadsBelow Goal
read_goal grammar zero goal ts = Err faults.TooDeep
read_goal grammar (suc n) goal ts = read (read_goal grammar n) (grammar goal) (so_far done ts)
