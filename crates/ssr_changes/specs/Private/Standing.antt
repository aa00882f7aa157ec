-- Private: how a change of a file is tried without the others.
use Rattle.std.specs.Prelude.{Bool, Option}
use Rattle.ssr_base_trees.specs.Changes.{Change}
use Rattle.ssr_standing.specs.Fitted.{if_fitted}
use Rattle.ssr_standing.specs.Near.{settled}
use Rattle.ssr_standing.specs.declared.fitted.Judge.{Judge}
use Rattle.ssr_standing.specs.declared.fitted.Judge.TheVariants as judges
use Rattle.ssr_changes.specs.declared.standing.Trial.{Trial}
use Rattle.ssr_changes.specs.declared.standing.Trial.TheVariants as trials

-- a change as it stands when it is tried so; none where it doesn't
abbrev pub tell : Trial → (Judge → Change → Bool) → Change → Option Change
tell trials.Settled stands_by c = settled stands_by c
tell trials.Alone stands_by c = if_fitted (stands_by judges.File) c
