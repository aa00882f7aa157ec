-- Which files are searched, and which are told as unread.
use Rattle.std.specs.Prelude.{ℕ, ◌≡◌, ◌⊎◌, ◌≤◌, ◌+◌, List, [], ◌∷◌, Ok, Err, string_bytes}
use Rattle.ssr_syntax_kinds.specs.declared.reach.Reach.TheVariants.{Whole}
use Rattle.ssr_syntax_tree.specs.Syntax.{Syntax}
use Rattle.ssr_syntax.specs.Reading.{file_reading_of}
use Rattle.ssr_syntax.specs.declared.syntax_error.SyntaxError.TheVariants as errors
use Rattle.ssr_base_trees.specs.Built.{most_trees}
use Rattle.ssr_package.specs.declared.source_file.SourceFile.{SourceFile}
use Rattle.ssr_changes.specs.declared.sorting.Unread.{Unread}
use Rattle.ssr_changes.specs.Files.{File}

-- a file on the disk, as it is searched: nothing is set aside where it is read as it stands
pub record IsFileOf (source : SourceFile) (file : File) : Type 0 where
  pub name : file.name ≡ string_bytes source.name
  pub text : file.text ≡ string_bytes source.text
  pub as_it_stands : (code : Syntax) → file_reading_of Whole file.text ≡ Ok code → file.aside ≡ []

-- a file that isn't searched: it isn't read as it stands, or there are as many before it as there may be
pub record IsToldOf (before : ℕ) (source : SourceFile) (unread : Unread) : Type 0 where
  pub name : string_bytes unread.name ≡ string_bytes source.name
  pub text : string_bytes unread.text ≡ string_bytes source.text
  pub why : (file_reading_of Whole (string_bytes source.text) ≡ Err unread.why) ⊎ ((unread.why ≡ errors.TooLong) × (most_trees ≤ before))

-- Of files the ones are searched and the others are told, both in their order. So many are searched that stand before them.
pub data AreSorted : ℕ → List SourceFile → List File → List Unread → Type 0 where
  none : (before : ℕ) → AreSorted before [] [] []
  read : (before : ℕ) (source : SourceFile) (sources : List SourceFile) (file : File) (files : List File) (unread : List Unread)
      → IsFileOf source file → AreSorted (before + 1) sources files unread → AreSorted before (source ∷ sources) (file ∷ files) unread
  told : (before : ℕ) (source : SourceFile) (sources : List SourceFile) (files : List File) (one : Unread) (unread : List Unread)
      → IsToldOf before source one → AreSorted before sources files unread → AreSorted before (source ∷ sources) files (one ∷ unread)
