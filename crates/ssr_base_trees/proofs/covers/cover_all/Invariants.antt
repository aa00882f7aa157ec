use Rattle.std.proofs.Common.{◌≡◌, drop, map}
use Rattle.ssr_base_trees.specs.Origins.{join, cover_of, plain_cover, plain_origin}
use Rattle.ssr_base_trees.proofs.covers.cover_all.Given as goal

-- what covers all is what covers those passed, joined with what covers those left
abbrev pub invariant-loop-origin : goal.invariant-loop-origin
invariant-loop-origin l =
    join (plain_cover l.cover) (cover_of (map plain_origin (drop l.origin-index l.origins))) ≡ cover_of (map plain_origin l.origins)
