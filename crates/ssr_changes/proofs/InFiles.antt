-- What the edits of the searched texts come to in the files, one file after another.
use Rattle.std.proofs.Common.{◌≡◌, ℕ, ◌+◌, ◌<◌, ◌≤◌, List, [], ◌∷◌, ◌++◌, length, map, drop, All, Option, Some, None, Ok, Err, false, sym, ◌∙◌, ap, subst, append_assoc, append-nil}
use Rattle.std.specs.Prelude.{flat_map, slice_get, string_bytes}
use Rattle.std.specs.BTreeMap.{BTreeMap, UpdatesBy}
use Rattle.std.specs.Cmp.{nat_cmp_is}
use Rattle.std.specs.List.{enumerate_from}
use Rattle.std.specs.Option.{option_map_or}
use Rattle.std.specs.Ordering.{is_eq, nat_cmp}
use Rattle.std.specs.declared.cmp.Ordering.TheVariants as ord
use Rattle.std.proofs.lemmas.List.{drop_more, drop_all, map-append}
use Rattle.std.proofs.lemmas.Option.{get_or_from_slice_get}
use Rattle.ssr_syntax_kinds.specs.declared.reach.Reach.TheVariants.{Whole}
use Rattle.ssr_syntax_tree.specs.Syntax.{Syntax, source_of}
use Rattle.ssr_base_trees.specs.Changes.{Change, FitsText, replaced}
use Rattle.ssr_base_trees.specs.Meanings.{Meanings}
use Rattle.ssr_base_trees.specs.Workspace.{Workspace}
use Rattle.ssr_base_trees.specs.declared.ids.FileId.{FileId}
use Rattle.ssr_base_trees.specs.declared.ids.FilePosition.{FilePosition}
use Rattle.ssr_base_trees.specs.declared.ids.FileRange.{FileRange}
use Rattle.ssr_base_trees.proofs.Shared.{and_some, some_and}
use Rattle.ssr_set_aside.specs.Sparing.{bounds, bounds_of, spared, told}
use Rattle.ide_ssr_rewriting.specs.Edits.{EditsFit, file_cmp}
use Rattle.ssr_searching.specs.Searching.{Search, Changes, ComesToOnce, changes, changes_in, ReachesOnce}
use Rattle.ssr_searching.specs.declared.searching.SearchError.{SearchError}
use Rattle.ssr_searching.specs.declared.searching.SearchError.TheVariants as errors
use Rattle.ssr_changes.specs.declared.changing.FileChange.{FileChange}
use Rattle.ssr_changes.specs.Changing.{AreChanges, Changed, FitsIn, IsWhy, all_changed, change_in, changed, shown}
use Rattle.ssr_changes.specs.Files.{File}
use Rattle.ssr_changes.specs.Private.Changing.{FitsTree}
use Rattle.ssr_standing.specs.Expansions.{stands_in}
use Rattle.ssr_standing.specs.Near.{stands_by}
use Rattle.ssr_changes.specs.Standing.{falling, standing}

-- ** The edits that are left.

-- the edits of the files behind one stay where that one's is taken out
pub others_stay : (old new : BTreeMap FileId (List Change)) (n : ℕ) → UpdatesBy file_cmp (λ id. nat_cmp n id.0) old new None
    → (k : ℕ) → n < k → changes_in new k ≡ changes_in old k
others_stay old new n updates k less =
    let differ : is_eq (nat_cmp n k) ≡ false = ap is_eq (sym (nat_cmp_is n k ord.Less less)) in updates.2 (record { 0 = k }) differ

-- an edit fits the text of its file's tree
pub fits_tree : (w : Workspace) (edits : BTreeMap FileId (List Change)) (n : ℕ) (edit : List Change) → EditsFit w edits → changes_in edits n ≡ Some edit → FitsTree w n edit
fits_tree w edits n edit fit is =
    some_and (slice_get w.files n) (λ tree. All (FitsText (source_of tree)) edit) (fit (record { 0 = n }) edit is)

-- ** What they come to.

-- what changes in the files from this number on
abbrev pub left_from : Workspace → Changes → List File → ℕ → List Changed
left_from w new files n = flat_map (change_in w new) (enumerate_from n (drop n files))

module _ (w : Workspace) (new : Changes) (files : List File) (n : ℕ) (file : File) (less : n < length files) (there : slice_get files n ≡ Some file) where
  here : left_from w new files n ≡ change_in w new (n, file) ++ left_from w new files (n + 1)
  here =
      ap (λ (rest : List File). flat_map (change_in w new) (enumerate_from n rest))
      (drop_more files n file less ∙ ap (λ (f : File). f ∷ drop (n + 1) files) (get_or_from_slice_get files n file file there))

  -- a file without changes
  pub none_more : (made all : List Changed) → new n ≡ None → made ++ left_from w new files n ≡ all → made ++ left_from w new files (n + 1) ≡ all
  none_more made all none so_far =
      let empty : change_in w new (n, file) ≡ [] = ap (λ cs. option_map_or (λ cs. changed w n file cs ∷ []) cs []) none in
      let rest : left_from w new files n ≡ left_from w new files (n + 1) = here ∙ ap (λ (c : List Changed). c ++ left_from w new files (n + 1)) empty in
      ap (λ (rest : List Changed). made ++ rest) (sym rest) ∙ so_far

  -- a file with changes
  pub some_more : (made : List FileChange) (more : List FileChange) (one : FileChange) (edit : List Change) (all : List Changed) → new n ≡ Some edit
      → shown one ≡ changed w n file edit → more ≡ made ++ one ∷ [] → map shown made ++ left_from w new files n ≡ all
      → map shown more ++ left_from w new files (n + 1) ≡ all
  some_more made more one edit all some is grown so_far =
      let it : change_in w new (n, file) ≡ shown one ∷ [] =
      ap (λ cs. option_map_or (λ cs. changed w n file cs ∷ []) cs []) some ∙ ap (λ (c : Changed). c ∷ []) (sym is) in
      ap (λ (l : List FileChange). map shown l ++ left_from w new files (n + 1)) grown
      ∙ ap (λ (l : List Changed). l ++ left_from w new files (n + 1)) (map-append shown made (one ∷ []))
      ∙ append_assoc (map shown made) (shown one ∷ []) (left_from w new files (n + 1))
      ∙ ap (λ (c : List Changed). map shown made ++ (c ++ left_from w new files (n + 1))) (sym it)
      ∙ ap (λ (rest : List Changed). map shown made ++ rest) (sym here)
      ∙ so_far

pub none_left : (w : Workspace) (new : Changes) (files : List File) (n : ℕ) (made : List Changed) → length files ≤ n
    → made ++ left_from w new files n ≡ all_changed w new files → made ≡ all_changed w new files
none_left w new files n made all so_far =
    let empty : left_from w new files n ≡ [] = ap (λ (rest : List File). flat_map (change_in w new) (enumerate_from n rest)) (drop_all n files all) in
    sym (append-nil made) ∙ ap (λ (rest : List Changed). made ++ rest) (sym empty) ∙ so_far

-- what comes of a file's changes is what changes in it
pub change_is : (w v : Workspace) (n : ℕ) (file : File) (cs left : List Change) (c : FileChange) → v ≡ w → c.file ≡ n
    → left ≡ spared file.reaches cs → c.edit ≡ standing (stands_in v n) (stands_by v n) left → string_bytes c.new ≡ replaced file.text 0 (length file.text) c.edit
    → map bounds c.told.items ≡ told file.reaches cs → map bounds c.unread.items ≡ map bounds_of (falling (stands_in v n) (stands_by v n) left)
    → shown c ≡ changed w n file cs
change_is w v n file cs left c same numbered spares edits text tells unread =
    let rest : List Change = spared file.reaches cs in
    let made : List Change = standing (stands_in w n) (stands_by w n) rest in
    let edited : c.edit ≡ made = edits ∙ ap (standing (stands_in v n) (stands_by v n)) spares ∙ ap (λ (w : Workspace). standing (stands_in w n) (stands_by w n) rest) same in
    let fell : map bounds c.unread.items ≡ map bounds_of (falling (stands_in w n) (stands_by w n) rest) =
    unread ∙ ap (λ (cs : List Change). map bounds_of (falling (stands_in v n) (stands_by v n) cs)) spares
    ∙ ap (λ (w : Workspace). map bounds_of (falling (stands_in w n) (stands_by w n) rest)) same in
    let of : ℕ → List Change → List ℕ → List (ℕ × ℕ) → List (ℕ × ℕ) → Changed =
    λ n edit new told unread. record { file = n; edit = edit; new = new; told = told; unread = unread } in
    ap (λ n. of n c.edit (string_bytes c.new) (map bounds c.told.items) (map bounds c.unread.items)) numbered
    ∙ ap (λ (edit : List Change). of n edit (string_bytes c.new) (map bounds c.told.items) (map bounds c.unread.items)) edited
    ∙ ap (λ (new : List ℕ). of n made new (map bounds c.told.items) (map bounds c.unread.items))
    (text ∙ ap (λ (edit : List Change). replaced file.text 0 (length file.text) edit) edited)
    ∙ ap (λ (told : List (ℕ × ℕ)). of n made (replaced file.text 0 (length file.text) made) told (map bounds c.unread.items)) tells
    ∙ ap (of n made (replaced file.text 0 (length file.text) made) (told file.reaches cs)) fell

-- a change fits the text of its file
pub fits_in : (files : List File) (n : ℕ) (file : File) (c : FileChange) → c.file ≡ n → slice_get files n ≡ Some file → All (FitsText file.text) c.edit → FitsIn files c
fits_in files n file c is there fit =
    and_some (slice_get files c.file) (λ (f : File). All (FitsText f.text) c.edit) file (ap (slice_get files) is ∙ there) fit

-- ** What is told in their place.

pub why_is : (s : Search) (rules : List (List ℕ)) (e : SearchError) → ReachesOnce Whole s rules (Err e) → IsWhy s rules e
why_is s rules (errors.Refused message) comes = comes
why_is s rules (errors.Clash earlier later) comes = comes
why_is s rules errors.Memory comes = tt

-- ** The search is made in the workspace of the files.

abbrev pub search_in : Workspace → Meanings → FilePosition → List FileRange → Search
search_in w m position ranges = record { workspace = w; meanings = m; position = position; ranges = ranges }

pub are_changes : (w v : Workspace) (m : Meanings) (position : FilePosition) (ranges : List FileRange) (rules : List (List ℕ)) (files : List File)
    (found : BTreeMap FileId (List Change)) (made : List Changed) → w ≡ v → ReachesOnce Whole (search_in w m position ranges) rules (Ok found)
    → made ≡ all_changed v (changes_in found) files → AreChanges (search_in v m position ranges) rules files made
are_changes w v m position ranges rules files found made same comes are = record {
  new = changes_in found;
  comes = subst (λ (w : Workspace). ComesToOnce Whole (search_in w m position ranges) rules (changes (changes_in found))) same comes;
  are = are;
}

pub why_in : (w v : Workspace) (m : Meanings) (position : FilePosition) (ranges : List FileRange) (rules : List (List ℕ)) (e : SearchError) → w ≡ v
    → ReachesOnce Whole (search_in w m position ranges) rules (Err e) → IsWhy (search_in v m position ranges) rules e
why_in w v m position ranges rules e same comes =
    subst (λ (w : Workspace). IsWhy (search_in w m position ranges) rules e) same (why_is (search_in w m position ranges) rules e comes)
