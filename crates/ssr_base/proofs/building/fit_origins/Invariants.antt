use Rattle.std.proofs.Common.{◌≡◌, drop, map}
use Rattle.std.specs.List.{list_all}
use Rattle.ssr_base_trees.specs.Origins.{fits_origin}
use Rattle.ssr_base.specs.Building.{origin_of}
use Rattle.ssr_base.proofs.building.fit_origins.Given as goal

abbrev pub invariant-loop-token : goal.invariant-loop-token
invariant-loop-token l =
    list_all (fits_origin l.text) (map origin_of (drop l.token-index l.tokens)) ≡ list_all (fits_origin l.text) (map origin_of l.tokens)
