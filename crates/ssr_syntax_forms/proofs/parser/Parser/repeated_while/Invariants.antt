-- The whole loop is the turns that are left.
use Rattle.std.proofs.Common.{◌≡◌, ◌+◌, ◌-◌, length, Result}
use Rattle.ssr_syntax_forms.specs.declared.fault.Fault.{Fault}
use Rattle.ssr_syntax_forms.specs.Forms.{Test, repeat}
use Rattle.ssr_syntax_forms.specs.Parser.{State, Calls, repeated}
use Rattle.ssr_syntax_forms.specs.Private.Ahead.{Asks}
use Rattle.ssr_syntax_forms.proofs.parser.Parser.repeated_while.Given as goal

abbrev pub invariant-turns : goal.invariant-turns
invariant-turns g l =
    (test : Test) → Asks (goal.P-post g l.goes_on) test → (does : State → Result State Fault) → Calls (goal.F-post g l.step) does
    → repeated test does l.fn.self
    ≡ repeat (λ z. z.rest) (length l.fn.self.rest + 1 - l._turn) test does l.self
