use Rattle.std.proofs.Common.{◌≡◌, length}
use Rattle.ssr_package.specs.Paths.{parts}
use Rattle.ssr_changes.proofs.Names.{some_up}
use Rattle.ssr_changes.proofs.naming.leads_up.Given as goal
use denote.Text.{Utf8}
use denote.Shadow.{shadow}

-- the rest of the name leads up if the whole does
abbrev pub invariant-loop-part : goal.invariant-loop-part
invariant-loop-part l = shadow (Utf8 l.rest) × (some_up (parts l.rest) ≡ some_up (parts l.fn.name))

abbrev pub decreases-loop-part : goal.decreases-loop-part
decreases-loop-part l = length (parts l.rest)
