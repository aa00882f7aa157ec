-- For what a search is made, or why there is none.
use Rattle.std.specs.Prelude.{ℕ, ◌≡◌, ◌<◌, ◌≤◌, ◌⊎◌, List, [], length, map, Option, Some, None, All, Result, Ok, Err, codes, nat_lt, Bool}
use Rattle.std.specs.List.{filter}
use Rattle.std.specs.Option.{IsSomeAnd, option_map}
use Rattle.ssr_syntax_tree.specs.Syntax.{Syntax, source_of}
use Rattle.ssr_base_trees.specs.declared.ids.FileRange.{FileRange}
use Rattle.ssr_base_trees.specs.declared.ids.FilePosition.{FilePosition}
use Rattle.ssr_base_trees.specs.Meanings.{Meanings}
use Rattle.ssr_base_trees.specs.Workspace.{Workspace, tree_of, node_id, file_span_of}
use Rattle.ide_ssr_search.specs.declared.context_error.ContextError.{ContextError}
use Rattle.ide_ssr_search.specs.declared.context_error.ContextError.TheVariants as errors
use Rattle.ide_ssr_search.specs.Context.{Context}
use Rattle.ide_ssr_search.specs.Positions.{IsNodeAt, IsInnermost}

abbrev pub has_byte : FileRange → Bool
has_byte range = nat_lt range.range.start range.range.end

-- the restrictions that aren't empty
abbrev pub restricting : List FileRange → List FileRange
restricting restrictions = filter has_byte restrictions

abbrev pub HasFile : Workspace → ℕ → Type 0
HasFile w file = file < length w.files

-- a position lies in its file's text, or at the end
abbrev pub LiesInText : Workspace → FilePosition → Type 0
LiesInText w position =
    HasFile w position.file_id.0 × IsSomeAnd (tree_of w position.file_id.0) (λ tree. position.offset ≤ length (source_of tree))

abbrev pub AreOfFiles : Workspace → List FileRange → Type 0
AreOfFiles w restrictions = All (λ range. HasFile w range.file_id.0) (restricting restrictions)

-- this is the node of a position in its file's tree, and all restrictions are of files
pub record IsPlace (w : Workspace) (position : FilePosition) (restrictions : List FileRange) (tree : Syntax) (n : ℕ) : Type 0 where
  pub in_text : LiesInText w position
  pub of_files : AreOfFiles w restrictions
  pub is : tree_of w position.file_id.0 ≡ Some tree
  pub node : IsNodeAt tree position.offset n

-- a search at a position is made for this
pub record IsContext (w : Workspace) (m : Meanings) (position : FilePosition) (restrictions : List FileRange) (c : Context) : Type 0 where
  pub tree : Syntax
  pub node : ℕ
  pub place : IsPlace w position restrictions tree node
  pub scope : m.scope (node_id position.file_id.0 node) ≡ Some c.scope
  pub restricted : c.restrictions ≡ map file_span_of (restricting restrictions)
  pub around : Option ℕ
  pub innermost : IsInnermost tree node around
  pub function : c.function ≡ option_map (node_id position.file_id.0) around

-- The first refusal, or what the search is made for. Want of memory says nothing.
abbrev pub Makes : Workspace → Meanings → FilePosition → List FileRange → Result Context ContextError → Type 0
Makes w m position restrictions (Ok c) = IsContext w m position restrictions c
Makes w m position restrictions (Err errors.NoSuchFile) =
    ¬ HasFile w position.file_id.0 ⊎ (LiesInText w position × ¬ AreOfFiles w restrictions)
Makes w m position restrictions (Err errors.NoSuchPosition) = HasFile w position.file_id.0 × ¬ LiesInText w position
Makes w m position restrictions (Err errors.NoScope) =
    (tree : Syntax) × (n : ℕ) × IsPlace w position restrictions tree n × (m.scope (node_id position.file_id.0 n) ≡ None)
Makes w m position restrictions (Err errors.NoFiles) = ⊥
Makes w m position restrictions (Err errors.Memory) = Unit {0}

abbrev pub first_position : FilePosition
first_position = record { file_id = record { 0 = 0 }; offset = 0 }

-- The first refusal, or what a search in front of the first file, without restrictions, is made for. Want of memory says
-- nothing.
abbrev pub MakesFirst : Workspace → Meanings → Result Context ContextError → Type 0
MakesFirst w m (Ok c) = IsContext w m first_position [] c
MakesFirst w m (Err errors.NoFiles) = length w.files ≡ 0
MakesFirst w m (Err errors.NoScope) = (0 < length w.files) × Makes w m first_position [] (Err errors.NoScope)
MakesFirst w m (Err errors.NoSuchFile) = ⊥
MakesFirst w m (Err errors.NoSuchPosition) = ⊥
MakesFirst w m (Err errors.Memory) = Unit {0}

-- the words that an error is shown in
abbrev pub error_words : ContextError → List ℕ
error_words errors.NoSuchFile = codes "No such file"
error_words errors.NoSuchPosition = codes "No such position"
error_words errors.NoScope = codes "no resolution scope for file"
error_words errors.NoFiles = codes "No files to search"
error_words errors.Memory = codes "out of memory"
