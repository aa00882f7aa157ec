-- Files on the disk, and the trees that are searched in their place.
use Rattle.std.specs.Prelude.{ℕ, List, [], ◌∷◌, map, slice_index_or}
use Rattle.std.specs.List.{enumerate_from}
use Rattle.ssr_syntax_tree.specs.Syntax.{Syntax, source_of}
use Rattle.ssr_base_trees.specs.Changes.{Change}
use Rattle.ssr_base_trees.specs.Origins.{Span}
use Rattle.ssr_base_trees.specs.Workspace.{Workspace}
use Rattle.ssr_set_aside.specs.SetAside.{IsSetAside}

-- a file: its name, its text on the disk, the changes of that which make the text that is searched, of each the bytes that no match
-- may touch, and the bytes of which nothing is searched
pub record File : Type 0 where
  pub name : List ℕ
  pub text : List ℕ
  pub aside : List Change
  pub reaches : List Span
  pub unsearched : List Span

-- the tree is that of the file's text with what is set aside
abbrev pub IsSearched : Syntax → File → Type 0
IsSearched tree file = IsSetAside file.text (record { tree = tree; aside = file.aside; reaches = file.reaches; unsearched = file.unsearched })

-- each file has its tree, in their order
abbrev pub AreSearched : List Syntax → List File → Type 0
AreSearched [] [] = Unit {0}
AreSearched [] (file ∷ files) = ⊥
AreSearched (tree ∷ trees) [] = ⊥
AreSearched (tree ∷ trees) (file ∷ files) = IsSearched tree file × AreSearched trees files

-- the files as they are searched
pub record Searchable : Type 0 where
  pub workspace : Workspace
  pub files : List File

-- a file of which nothing is set aside; one behind the last name has none
abbrev pub as_it_is : List (List ℕ) → ℕ × Syntax → File
as_it_is names numbered = record { name = slice_index_or names numbered.0 []; text = source_of numbered.1; aside = []; reaches = []; unsearched = [] }

-- the files of trees, of which nothing is set aside
abbrev pub as_they_are : List (List ℕ) → List Syntax → List File
as_they_are names trees = map (as_it_is names) (enumerate_from 0 trees)
