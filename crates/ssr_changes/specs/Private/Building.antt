-- Private: which trees a workspace is built of.
use Rattle.std.specs.Prelude.{ℕ, ◌≡◌, ◌+◌, ◌<◌, [], ◌∷◌, ◌++◌, Option, Some, None, Ok, Err, length}
use Rattle.ssr_syntax_kinds.specs.declared.reach.Reach.TheVariants.{Whole}
use Rattle.ssr_syntax_tree.specs.Syntax.{Syntax}
use Rattle.ssr_syntax.specs.Reading.{IsReadOf}
use Rattle.ssr_base_trees.specs.Built.{most_trees}
use Rattle.ssr_base_trees.specs.Workspace.{Workspace}
use Rattle.ssr_base.specs.Building.{added_of}
use Rattle.ssr_base.specs.declared.building.Expansion.{Expansion}
use Rattle.ssr_base.specs.declared.workspace_error.WorkspaceError.{WorkspaceError}
use Rattle.ssr_package.specs.declared.source_file.SourceFile.{SourceFile}
use Rattle.ssr_changes.specs.declared.sorting.Sorted.{Sorted}
use Rattle.ssr_changes.specs.declared.sorting.Unread.{Unread}
use Rattle.ssr_changes.specs.Files.{File, IsSearched}
use Rattle.ssr_changes.specs.Sorting.{IsFileOf, IsToldOf}

-- a file is added, as one that is searched or as one that is told
pub data Adds (old new : Sorted) (source : SourceFile) : Type 0 where
  as_read : (tree : Syntax) (file : File) → IsFileOf source file → IsSearched tree file → IsReadOf Whole tree
      → length old.files.items < most_trees → new.trees.items ≡ old.trees.items ++ tree ∷ []
      → new.files.items ≡ old.files.items ++ file ∷ [] → new.unread.items ≡ old.unread.items → Adds old new source
  as_told : (one : Unread) → IsToldOf (length old.files.items) source one → new.trees.items ≡ old.trees.items
      → new.files.items ≡ old.files.items → new.unread.items ≡ old.unread.items ++ one ∷ [] → Adds old new source

-- an expansion is added, and its tree has this number; or it is refused, and all is as it was
abbrev pub IsAdded : Workspace → Expansion → Workspace → Option ℕ → Type 0
IsAdded old x new (Some number) = (added_of old x ≡ Ok new) × (number ≡ length old.files + length old.expansions)
IsAdded old x new None = (e : WorkspaceError) × (added_of old x ≡ Err e) × (new ≡ old)

-- how many trees aren't there
abbrev pub missing : Option ℕ → ℕ
missing (Some number) = 0
missing None = 1

-- the reach and the files are as they were, and an expansion is added if its tree has a number
pub record IsOneMore (old new : Workspace) (number : Option ℕ) : Type 0 where
  pub reach : new.reach ≡ old.reach
  pub files : new.files ≡ old.files
  pub counted : length new.expansions + missing number ≡ length old.expansions + 1
