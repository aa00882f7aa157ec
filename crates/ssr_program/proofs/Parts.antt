-- The new texts of files, one behind the other.
use Rattle.std.proofs.Common.{◌≡◌, ℕ, ◌+◌, ◌<◌, ◌≤◌, List, [], ◌∷◌, ◌++◌, All, length, drop, Option, Some, None, ap, subst, sym, ◌∙◌, append_assoc, append-nil, arith}
use Rattle.std.specs.Prelude.{flat_map, slice_get}
use Rattle.std.specs.BTreeMap.{BTreeMap, get}
use Rattle.std.specs.List.{enumerate_from}
use Rattle.std.specs.Option.{IsSomeAnd, option_map_or}
use Rattle.std.proofs.lemmas.List.{drop_more, drop_all}
use Rattle.std.proofs.lemmas.Option.{get_or_from_slice_get}
use Rattle.ssr_syntax_tree.specs.Syntax.{Syntax, source_of}
use Rattle.ssr_base_trees.specs.declared.ids.FileId.{FileId}
use Rattle.ssr_base_trees.specs.Changes.{Change, FitsText}
use Rattle.ssr_base_trees.specs.Workspace.{Workspace}
use Rattle.ide_ssr_rewriting.specs.Edits.{EditsFit, file_cmp}
use Rattle.ssr_program.specs.OfFacts.{name_at, part, part_of, parts}
use Rattle.ssr_base.specs.Editing.{new_text}
use Rattle.ssr_searching.specs.Searching.{Changes}

-- what is written of the files from this number on
abbrev pub left : List (List ℕ) → List Syntax → Changes → ℕ → List ℕ
left names files new n = flat_map (part_of names new) (enumerate_from n (drop n files))

module _ (names : List (List ℕ)) (files : List Syntax) (new : Changes) (n : ℕ) (code : Syntax) (less : n < length files) (there : slice_get files n ≡ Some code) where
  here : left names files new n ≡ part_of names new (n, code) ++ left names files new (n + 1)
  here =
      ap (λ (rest : List Syntax). flat_map (part_of names new) (enumerate_from n rest))
      (drop_more files n code less ∙ ap (λ (c : Syntax). c ∷ drop (n + 1) files) (get_or_from_slice_get files n code code there))

  -- a file without changes
  pub none_more : (text all : List ℕ) → new n ≡ None → text ++ left names files new n ≡ all → text ++ left names files new (n + 1) ≡ all
  none_more text all none so_far =
      let empty : part_of names new (n, code) ≡ [] = ap (λ cs. option_map_or (λ cs. part (name_at names n) (new_text code cs)) cs []) none in
      let rest : left names files new n ≡ left names files new (n + 1) = here ∙ ap (λ (p : List ℕ). p ++ left names files new (n + 1)) empty in
      ap (λ (rest : List ℕ). text ++ rest) (sym rest) ∙ so_far

  -- a file with changes
  pub some_more : (text more all name : List ℕ) (changes : List Change) → new n ≡ Some changes → name ≡ name_at names n
      → more ≡ text ++ part name (new_text code changes) → text ++ left names files new n ≡ all → more ++ left names files new (n + 1) ≡ all
  some_more text more all name changes some its is so_far =
      let made : part_of names new (n, code) ≡ part name (new_text code changes) =
      ap (λ cs. option_map_or (λ cs. part (name_at names n) (new_text code cs)) cs []) some ∙ ap (λ (name : List ℕ). part name (new_text code changes)) (sym its) in
      ap (λ (s : List ℕ). s ++ left names files new (n + 1)) is
      ∙ append_assoc text (part name (new_text code changes)) (left names files new (n + 1))
      ∙ ap (λ (p : List ℕ). text ++ (p ++ left names files new (n + 1))) (sym made)
      ∙ ap (λ (rest : List ℕ). text ++ rest) (sym here)
      ∙ so_far

-- all files
pub none_left : (names : List (List ℕ)) (files : List Syntax) (new : Changes) (n : ℕ) (text : List ℕ) → length files ≤ n
    → text ++ left names files new n ≡ parts names files new → text ≡ parts names files new
none_left names files new n text all so_far =
    let empty : left names files new n ≡ [] =
    ap (λ (rest : List Syntax). flat_map (part_of names new) (enumerate_from n rest)) (drop_all n files all) in
    sym (append-nil text) ∙ ap (λ (rest : List ℕ). text ++ rest) (sym empty) ∙ so_far

-- the changes of a file fit its text
pub fit_file : (w : Workspace) (n : ℕ) (code : Syntax) (edits : BTreeMap FileId (List Change)) (changes : List Change) → slice_get w.files n ≡ Some code
    → EditsFit w edits → get file_cmp edits (record { 0 = n }) ≡ Some changes → All (FitsText (source_of code)) changes
fit_file w n code edits changes there fits found =
    subst (λ (file : Option Syntax). IsSomeAnd file (λ tree. All (FitsText (source_of tree)) changes)) there (fits (record { 0 = n }) changes found)
