-- Private: one change of a part of a text.
use Rattle.std.specs.Prelude.{Bool, [], ◌∷◌}
use Rattle.ssr_base_trees.specs.Changes.{Change}
use Rattle.ssr_standing.specs.Parts.{stands_between}
use Rattle.ssr_standing.specs.declared.parts.Part.{Part}

-- it stands alone
abbrev pub stands_alone : Part → Change → Bool
stands_alone part c = stands_between part.reach part.front.now part.text.now part.range.start part.range.end (c ∷ [])
