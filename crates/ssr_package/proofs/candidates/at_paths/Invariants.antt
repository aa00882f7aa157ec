use Rattle.std.proofs.Common.{◌≡◌, map, take, option_copied}
use Rattle.ssr_package.specs.Candidates as spec
use Rattle.ssr_package.proofs.candidates.at_paths.Given as goal

-- the files at the paths so far
abbrev pub invariant-loop-path : goal.invariant-loop-path
invariant-loop-path l = map spec.seen l.candidates.items ≡ map (spec.file_at (option_copied l.folder)) (map (λ path. path.now) (take l.path-index l.paths))
