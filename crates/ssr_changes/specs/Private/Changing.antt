-- Private: the change of one file.
use Rattle.std.specs.Prelude.{ℕ, ◌≡◌, List, Some, All, slice_get}
use Rattle.ssr_syntax_tree.specs.Syntax.{Syntax, source_of}
use Rattle.ssr_base_trees.specs.Changes.{Change, FitsText}
use Rattle.ssr_base_trees.specs.Workspace.{Workspace}
use Rattle.ssr_changes.specs.declared.changing.FileChange.{FileChange}
use Rattle.ssr_changes.specs.Changing.{changed, shown}
use Rattle.ssr_changes.specs.Files.{File, Searchable}

-- the changes fit the text of the file's tree
abbrev pub FitsTree : Workspace → ℕ → List Change → Type 0
FitsTree w n edit = (tree : Syntax) × (slice_get w.files n ≡ Some tree) × All (FitsText (source_of tree)) edit

-- what the changes of a file's searched text come to in the file
abbrev pub IsChangeOf : Searchable → ℕ → List Change → FileChange → Type 0
IsChangeOf s n edit c = (file : File) × (slice_get s.files n ≡ Some file) × (shown c ≡ changed s.workspace n file edit)
