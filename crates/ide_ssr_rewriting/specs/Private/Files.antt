-- Private: changes of a file of a workspace.
use Rattle.std.specs.Prelude.{ℕ, ◌≡◌, List, All, Some, slice_get}
use Rattle.std.specs.Option.{IsSomeAnd}
use Rattle.ssr_syntax_tree.specs.Syntax.{Syntax, source_of}
use Rattle.ssr_base_trees.specs.Changes.{Change, FitsText}
use Rattle.ssr_base_trees.specs.Workspace.{Workspace}

-- a file is there, and the changes fit its text
abbrev pub FitsTree : Workspace → ℕ → List Change → Type 0
FitsTree w n cs = (tree : Syntax) × (slice_get w.files n ≡ Some tree) × All (FitsText (source_of tree)) cs

-- a file is there, and the change fits its text
abbrev pub FitsIn : Workspace → ℕ → Change → Type 0
FitsIn w n c = IsSomeAnd (slice_get w.files n) (λ tree. FitsText (source_of tree) c)
