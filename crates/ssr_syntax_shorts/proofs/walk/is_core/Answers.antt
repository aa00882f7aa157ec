use Rattle.std.proofs.Common.{◌≡◌, true, false, List}
use Rattle.ssr_syntax_tree.specs.Syntax.{Syntax}
use Rattle.ssr_syntax_tree.specs.Places.{node_of}
use Rattle.ssr_syntax_tree.specs.declared.number.TokenNo.{TokenNo}
use Rattle.ssr_syntax_places.specs.Core.{Holes}
use Rattle.ssr_syntax_places.specs.PlainCore.{is_core_tree}
use Rattle.ssr_syntax_shorts.specs.Names.{AreNames}
use Rattle.ssr_syntax_shorts.specs.declared.operands.Need.TheVariants as need
use Rattle.ssr_syntax_shorts.specs.Private.Operands.{MeetsAlways}
use Rattle.ssr_syntax_shorts.proofs.walk.is_core.Goals as goal

-- the root stands in front
root_met : (s : Syntax) (names : List TokenNo) → MeetsAlways s names (need.Operand false 12) 0 → (holes : Holes) → AreNames s names holes
    → is_core_tree holes false 12 s ≡ true
unfolding node_of
root_met s names met holes are = met holes are

pub returns : goal.returns
returns c is = root_met c.args.tree.now c.args.names.now (c.are_met.ensures is)
