use Rattle.std.proofs.Common.{◌≡◌, length, take, drop}
use Rattle.ssr_base_trees.specs.Origins.{join, plain_cover}
use Rattle.ssr_base.specs.Building.{count_in, cover_of_tokens}
use Rattle.ssr_base.proofs.building.joined.Given as goal

abbrev pub invariant-loop-left : goal.invariant-loop-left
invariant-loop-left l = record {
  cover : join (plain_cover l.cover) (cover_of_tokens (take (count_in l.left l.rest) l.rest)) ≡ cover_of_tokens (take (count_in l.bytes l.tokens) l.tokens);
  rest : drop (count_in l.left l.rest) l.rest ≡ drop (count_in l.bytes l.tokens) l.tokens;
}

abbrev pub decreases-loop-left : goal.decreases-loop-left
decreases-loop-left l = length l.rest
