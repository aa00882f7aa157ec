-- Which changes of a file are made: those that stand, in parentheses where they stand only so.
use Rattle.std.specs.Prelude.{Bool, if◌then◌else◌, List, [], Option, filter}
use Rattle.std.specs.List.{filter_map}
use Rattle.std.specs.Option.{is_none}
use Rattle.ssr_base_trees.specs.Changes.{Change}
use Rattle.ssr_standing.specs.Fitted.{if_fitted}
use Rattle.ssr_standing.specs.Near.{settled}
use Rattle.ssr_standing.specs.declared.fitted.Judge.{Judge}
use Rattle.ssr_standing.specs.declared.fitted.Judge.TheVariants as judges

-- the changes of which nothing is told
abbrev pub untold : (Change → Option Change) → List Change → List Change
untold tell cs = filter (λ c. is_none (tell c)) cs

-- The changes that are made: all as they are, if they stand together. Else those that are settled, if these stand together; else those
-- that stand alone in the whole file, if these do; else none.
abbrev pub standing : (List Change → Bool) → (Judge → Change → Bool) → List Change → List Change
standing stand stands_by cs =
    let near = filter_map (settled stands_by) cs in
    let far = filter_map (if_fitted (stands_by judges.File)) cs in
    if stand cs then cs else if stand near then near else if stand far then far else []

-- the others
abbrev pub falling : (List Change → Bool) → (Judge → Change → Bool) → List Change → List Change
falling stand stands_by cs =
    if stand cs then []
    else if stand (filter_map (settled stands_by) cs) then untold (settled stands_by) cs
    else if stand (filter_map (if_fitted (stands_by judges.File)) cs) then untold (if_fitted (stands_by judges.File)) cs
    else cs
