-- Which changes of a text leave what stands around them as it was.
use Rattle.std.specs.Prelude.{ℕ, Bool, false, List, length, map}
use Rattle.std.specs.Option.{option_map_or}
use Rattle.std.specs.Result.{result_ok}
use Rattle.ssr_syntax_kinds.specs.declared.reach.Reach.{Reach}
use Rattle.ssr_syntax_tree.specs.Syntax.{Syntax, source_of}
use Rattle.ssr_syntax.specs.Reading.{file_reading, file_reading_of}
use Rattle.ssr_base_trees.specs.Changes.{Change, replaced}
use Rattle.ssr_standing.specs.Around.{agree}
use Rattle.ssr_standing.specs.Ranges.{new_places, old_place}

-- the text of a tree with changes made
abbrev pub changed_text : Syntax → List Change → List ℕ
changed_text tree cs = replaced (source_of tree) 0 (length (source_of tree)) cs

-- the new tree agrees with the old one around the changes
abbrev pub agrees_after : Syntax → List Change → Syntax → Bool
agrees_after tree cs new = agree tree (map old_place cs) new (new_places 0 0 cs)

-- A tree's text is read in a reach with the changes made, and what is read agrees with the tree around them.
abbrev pub stands_of : Reach → Syntax → List Change → Bool
stands_of reach tree cs = option_map_or (agrees_after tree cs) (result_ok (file_reading_of reach (changed_text tree cs))) false

-- the same in the stated language
abbrev pub stands : Syntax → List Change → Bool
stands tree cs = option_map_or (agrees_after tree cs) (result_ok (file_reading (changed_text tree cs))) false
