-- The one text of each kept match, the first clash of all lists, and the edits of the files.
use Rattle.std.specs.Prelude.{ℕ, ◌≡◌, ◌==◌, if◌then◌else◌, List, [], ◌∷◌, ◌++◌, map, filter, flat_map, slice_get, Option, Some, None, Result, Ok, Err, All, ⊤}
use Rattle.std.specs.BTreeMap.{BTreeMap, get}
use Rattle.std.specs.List.{enumerate_from, list_all}
use Rattle.std.specs.Option.{IsSomeAnd, option_map, option_map_or}
use Rattle.std.specs.Ordering.{nat_cmp}
use Rattle.std.specs.declared.cmp.Ordering.{Ordering}
use Rattle.ssr_syntax_tree.specs.Syntax.{source_of}
use Rattle.ssr_base_trees.specs.declared.ids.FileId.{FileId}
use Rattle.ssr_base_trees.specs.Changes.{Change, ChangesInOrder, FitsText}
use Rattle.ssr_base_trees.specs.Workspace.{FileSpan, Workspace, trees}
use Rattle.ide_ssr_bindings.specs.Found.{FoundMatch, held_range}
use Rattle.ide_ssr_nesting.specs.Holding.{Kept}
use Rattle.ide_ssr_nesting.specs.Lists.{Listing, listed, range_of}
use Rattle.ide_ssr_rewriting.specs.declared.editing.EditError.{EditError}
use Rattle.ide_ssr_rewriting.specs.declared.editing.EditError.TheVariants as errors
use Rattle.ide_ssr_rewriting.specs.Clashes.{Rewrite, Clash, IsFirst, changes_made, clash_of, clashes, is_clean}
use Rattle.ide_ssr_rewriting.specs.Fitting.{fitted_in}
use Rattle.ide_ssr_rewriting.specs.Replacements.{Writing, piece, prefix_by, text_of_match}

-- texts for the matches by their places, some of which may be missing
abbrev pub Texts : Type 0
Texts = ℕ → Option (List ℕ)

-- ** The lists.

-- a range for places where no match is kept; lists have the places of kept matches alone
abbrev pub nowhere : FileSpan
nowhere = record { file = 0; span = record { start = 0; end = 0 } }

-- where the match of a place comes from
abbrev pub range_at : Kept → ℕ → FileSpan
range_at kept n = option_map_or (range_of (trees kept.workspace)) (slice_get kept.matches n) nowhere

-- what stands for the matches of these places
abbrev pub list_at : Kept → Texts → List ℕ → List Rewrite
list_at kept texts places = map (λ n. record { range = range_at kept n; text = texts n }) places

-- what stands for the matches under the placeholder whose binding has the place i, of the match of the place n
abbrev pub list_under : Kept → Listing → Texts → ℕ → ℕ → List Rewrite
list_under kept lists texts n i = list_at kept texts (listed lists (Some (record { place = n; binding = i })))

-- what stands for the outermost matches
abbrev pub outermost_list : Kept → Listing → Texts → List Rewrite
outermost_list kept lists texts = list_at kept texts (listed lists None)

-- ** The texts.

-- What stands for a match that has these lists under its placeholders, by the places of their bindings: a text exactly if each of
-- them can be made, also one under a placeholder that the template doesn't use.
abbrev pub text_by : Workspace → Writing → FoundMatch → (ℕ → List Rewrite) → Option (List ℕ)
text_by w by m lists =
    let bound = enumerate_from 0 m.bindings in
    if list_all (λ p. is_clean (lists p.0)) bound
    then Some (text_of_match w by m (map (λ p. piece w (prefix_by by.rules m.rule p.1) (held_range (trees w) m.node.tree p.1) (lists p.0)) bound))
    else None

-- The texts are those that stand for the matches. There are such ones, and no others, as the law `laws::rewriting` says.
abbrev pub AreTexts : Kept → Listing → Writing → Texts → Type 0
AreTexts kept lists by texts = (n : ℕ) (m : FoundMatch) → slice_get kept.matches n ≡ Some m → texts n ≡ text_by kept.workspace by m (list_under kept lists texts n)

-- ** The clashes.

-- the clashes of the lists under the placeholders of a match
abbrev pub clashes_under : FoundMatch → (ℕ → List Rewrite) → List Clash
clashes_under m lists = flat_map (λ p. clashes (lists p.0)) (enumerate_from 0 m.bindings)

-- the clashes of all lists
abbrev pub all_clashes : Kept → Listing → Texts → List Clash
all_clashes kept lists texts =
    clashes (outermost_list kept lists texts) ++ flat_map (λ p. clashes_under p.1 (list_under kept lists texts p.0)) (enumerate_from 0 kept.matches)

-- ** The edits.

abbrev pub some_changes : List Change → Option (List Change)
some_changes [] = None
some_changes (c ∷ cs) = Some (c ∷ cs)

-- the changes of those of a list that lie in a file; without them there is no edit
abbrev pub made_in : ℕ → List Rewrite → Option (List Change)
made_in file list = some_changes (changes_made (filter (λ r. r.range.file == file) list))

-- the edit of a file, which makes these changes, some of them in parentheses so that the file groups as before
abbrev pub edit_of : Workspace → ℕ → List Rewrite → Option (List Change)
edit_of w file list = option_map (fitted_in w file) (made_in file list)

-- files are told apart by their numbers
abbrev pub file_cmp : FileId → FileId → Ordering
file_cmp a b = nat_cmp a.0 b.0

-- The answer where these are the texts: each file has its edit if there is no clash, and else the first clash is told. Want of
-- memory may be told in place of both. That a rule lacks a template is told before.
abbrev pub IsAnswer : Kept → Listing → Texts → Result (BTreeMap FileId (List Change)) EditError → Type 0
IsAnswer kept lists texts (Ok edits) =
    (all_clashes kept lists texts ≡ []) × ((file : FileId) → get file_cmp edits file ≡ edit_of kept.workspace file.0 (outermost_list kept lists texts))
IsAnswer kept lists texts (Err (errors.Clash earlier later)) = IsFirst (all_clashes kept lists texts) (Some (clash_of (earlier, later)))
IsAnswer kept lists texts (Err errors.NoTemplate) = ⊥
IsAnswer kept lists texts (Err errors.Memory) = ⊤

-- the answer to kept matches, their lists, and what they are written by
abbrev pub Answers : Kept → Listing → Writing → Result (BTreeMap FileId (List Change)) EditError → Type 0
Answers kept lists by result = (texts : Texts) × AreTexts kept lists by texts × IsAnswer kept lists texts result

-- each file with an edit is one of the workspace, and each change of it begins and ends between two characters of its text
abbrev pub EditsFit : Workspace → BTreeMap FileId (List Change) → Type 0
EditsFit w edits =
    (file : FileId) (changes : List Change) → get file_cmp edits file ≡ Some changes
    → IsSomeAnd (slice_get w.files file.0) (λ tree. All (FitsText (source_of tree)) changes)

-- the changes of each file with an edit stand in order, and no two of them share a byte
abbrev pub EditsInOrder : BTreeMap FileId (List Change) → Type 0
EditsInOrder edits = (file : FileId) (changes : List Change) → get file_cmp edits file ≡ Some changes → ChangesInOrder 0 changes
