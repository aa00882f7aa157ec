-- What a search is made for in front of the first file.
use Rattle.std.proofs.Common.{◌≡◌, ℕ, ◌<◌, ◌≤◌, List, [], length, None, Result, Ok, Err, ap, ◌∙◌, subst, inl, inr, arith}
use Rattle.std.proofs.lemmas.List.Elements.{All-nil}
use Rattle.std.proofs.lemmas.Option.{none-some}
use Rattle.std.specs.Option.{option_map}
use Rattle.ssr_syntax_tree.specs.Syntax.{source_of}
use Rattle.ssr_base_trees.specs.declared.ids.FileRange.{FileRange}
use Rattle.ssr_base_trees.specs.Meanings.{Meanings}
use Rattle.ssr_base_trees.specs.Workspace.{Workspace, PlacedTree, trees, tree_of}
use Rattle.ide_ssr_search.specs.declared.context_error.ContextError.{ContextError}
use Rattle.ide_ssr_search.specs.declared.context_error.ContextError.TheVariants as errors
use Rattle.ide_ssr_search.specs.Context.{Context}
use Rattle.ide_ssr_search.specs.Making.{HasFile, LiesInText, AreOfFiles, IsContext, Makes, MakesFirst, first_position}
use Rattle.ssr_base_trees.proofs.Shared.{and_some, length-trees, placed_there}

-- a file has a tree
pub file_there : (w : Workspace) (file : ℕ) → None ≡ tree_of w file → HasFile w file → ⊥
file_there w file none has =
    let there = placed_there (trees w) file (omega (arith, length-trees w)) in
    none-some there.0.syntax (none ∙ ap (option_map (λ (p : PlacedTree). p.syntax)) there.1)

first_in_text : (w : Workspace) → 0 < length w.files → LiesInText w first_position
first_in_text w has =
    let there = placed_there (trees w) 0 (omega (arith, length-trees w)) in
    (has, and_some (tree_of w 0) (λ tree. 0 ≤ length (source_of tree)) there.0.syntax (ap (option_map (λ (p : PlacedTree). p.syntax)) there.1) (omega arith))

pub makes_first : (w : Workspace) (m : Meanings) (restrictions : List FileRange) (made : Result Context ContextError) → restrictions ≡ [] → 0 < length w.files
    → Makes w m first_position restrictions made → MakesFirst w m made
makes_first w m restrictions (Ok c) none has makes = subst (λ rs. IsContext w m first_position rs c) none makes
makes_first w m restrictions (Err errors.NoSuchFile) none has (inl no_file) = no_file has
makes_first w m restrictions (Err errors.NoSuchFile) none has (inr no_files) =
    let refused = subst (λ rs. ¬ AreOfFiles w rs) none no_files.1 in
    refused (All-nil (λ range. HasFile w range.file_id.0))
makes_first w m restrictions (Err errors.NoSuchPosition) none has makes = makes.1 (first_in_text w has)
makes_first w m restrictions (Err errors.NoScope) none has makes = (has, subst (λ rs. Makes w m first_position rs (Err errors.NoScope)) none makes)
makes_first w m restrictions (Err errors.NoFiles) none has makes = absurd makes
makes_first w m restrictions (Err errors.Memory) none has makes = tt
