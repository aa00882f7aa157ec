use Rattle.std.proofs.Common.{◌≡◌, string_bytes, map, take}
use Rattle.ssr_package.specs.Paths as spec
use Rattle.ssr_package.proofs.paths.joined.Given as goal

-- the path of the parts so far
abbrev pub invariant-loop-part : goal.invariant-loop-part
invariant-loop-part l = string_bytes l.path ≡ spec.joined (map (λ part. part.now) (take l.part-index l.part-items))
