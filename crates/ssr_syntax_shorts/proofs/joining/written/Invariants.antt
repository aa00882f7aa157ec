use Rattle.std.proofs.Common.{◌≡◌, ℕ, List, take}
use Rattle.ssr_syntax_kinds.specs.declared.reach.Reach.{Reach}
use Rattle.ssr_syntax_shorts.specs.Made.{put_together}
use Rattle.ssr_syntax_shorts.specs.Private.Joining.{ArePlaced, IsAt, parts_of}
use Rattle.ssr_syntax_shorts.specs.Shorts.{IsReadOf}
use Rattle.ssr_syntax_shorts.proofs.joining.written.Given as goal

abbrev pub invariant-loop-placed : goal.invariant-loop-placed
invariant-loop-placed l = (reach : Reach) (long : List ℕ) (read : IsReadOf reach l.tree long) → ArePlaced (IsAt l.tree.names) 0 l.parts
    → l.made ≡ put_together read.syntax 0 (parts_of (take l.placed-index l.parts))
