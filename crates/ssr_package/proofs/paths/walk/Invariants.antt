use Rattle.std.proofs.Common.{◌≡◌, Some, length}
use denote.Text.{Utf8}
use denote.Shadow.{shadow}
use Rattle.ssr_package.specs.Paths as spec
use Rattle.ssr_package.proofs.paths.walk.Given as goal

-- the rest of the path leads from where it has come to where the whole leads
abbrev pub invariant-loop-part : goal.invariant-loop-part
invariant-loop-part l = shadow (Utf8 l.rest) × (spec.walked (Some (spec.texts l.parts)) (spec.parts l.rest) ≡ spec.walked (Some (spec.texts l.fn.parts)) (spec.parts l.fn.path))

abbrev pub decreases-loop-part : goal.decreases-loop-part
decreases-loop-part l = length (spec.parts l.rest)
