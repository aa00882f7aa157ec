use Rattle.std.proofs.Common.{◌≡◌, ◌++◌, length, string_bytes}
use denote.Text.{Utf8}
use denote.Shadow.{shadow}
use Rattle.ssr_package.specs.Crates as spec
use Rattle.ssr_package.proofs.crates.crate_name.Given as goal

-- the name so far, and that of the rest, is that of the whole
abbrev pub invariant-loop-part : goal.invariant-loop-part
invariant-loop-part l = shadow (Utf8 l.rest) × (string_bytes l.name ++ spec.crate_name l.rest ≡ spec.crate_name l.target)

abbrev pub decreases-loop-part : goal.decreases-loop-part
decreases-loop-part l = length l.rest
