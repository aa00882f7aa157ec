-- There is one answer, and its edits fit the files of the workspace.
use Rattle.std.proofs.Common.{◌≡◌, ℕ, ◌<◌, ◌==◌, Bool, List, [], ◌∷◌, ◌++◌, All, get_or, length, filter, Option, Some, None, refl, sym, ◌∙◌, ap, subst, arith}
use Rattle.std.specs.Prelude.{Contains, Ok, flat_map, option_map, slice_get}
use Rattle.std.specs.BTreeMap.{BTreeMap}
use Rattle.std.specs.List.{dedup, enumerate_from}
use Rattle.std.specs.Option.{IsSomeAnd}
use Rattle.std.proofs.lemmas.Bool.{eqb-true}
use Rattle.std.proofs.lemmas.List.Elements.{All-contains, All-filter, All-head, All-map, All-weaker, filter_passes}
use Rattle.std.proofs.lemmas.List.Filters.{All-dedup}
use Rattle.std.proofs.lemmas.Option.{same_Some, slice_get-get_or}
use Rattle.ssr_syntax_tree.specs.Syntax.{Syntax, source_of}
use Rattle.ssr_base_trees.specs.declared.ids.FileId.{FileId}
use Rattle.ssr_base_trees.specs.Changes.{Change, FitsText}
use Rattle.ssr_base_trees.specs.Laws.{LiesInFile, IsSpanOf}
use Rattle.ssr_base_trees.specs.Workspace.{Workspace, node_id}
use Rattle.ide_ssr_bindings.specs.Found.{FoundMatch}
use Rattle.ide_ssr_nesting.specs.declared.holders.Holder.{Holder}
use Rattle.ide_ssr_nesting.specs.Holding.{IsKept, Kept}
use Rattle.ide_ssr_nesting.specs.Lists.{AreLists, Listing, listed}
use Rattle.ide_ssr_rewriting.specs.Clashes.{Clash, Rewrite, change_of, changes_made, clash_of, clashes, same_range}
use Rattle.ide_ssr_rewriting.specs.Replacements.{Writing}
use Rattle.ide_ssr_rewriting.specs.Edits.{Answers, AreTexts, EditsFit, EditsInOrder, Texts, all_clashes, clashes_under, edit_of, list_under, outermost_list, range_at, some_changes}
use Rattle.ide_ssr_rewriting.specs.Fitting.{fitted_in}
use Rattle.ide_ssr_rewriting.specs.Laws.{EditsOrClash, OneEdit}
use Rattle.ide_ssr_rewriting.specs.Private.Files.{FitsIn, FitsTree}
use Rattle.ide_ssr_rewriting.specs.Private.Nest.{IsNest}
use Rattle.ide_ssr_rewriting.proofs.Fits.{range_in_file}
use Rattle.ide_ssr_rewriting.proofs.Fittings.{fits_in_file}
use Rattle.ide_ssr_rewriting.proofs.Groups.{edit_ordered}
use Rattle.ide_ssr_rewriting.proofs.Nests.{is_nest}
use Rattle.ide_ssr_rewriting.proofs.Pieces.{list_in_order}
use Rattle.ide_ssr_rewriting.proofs.Written.{boundary_of}
use Rattle.ide_ssr_rewriting.proofs.Texts.{list_same, lists_same, one_text}

-- ** One answer.

-- texts that stand for the matches are the same in each list
known_same : (kept : Kept) (lists : Listing) (by : Writing) → IsNest kept lists → (f g : Texts) → AreTexts kept lists by f → AreTexts kept lists by g
    → (holder : Option Holder) (j : ℕ) → Contains (listed lists holder) j → f j ≡ g j
known_same kept lists by is f g fs gs holder j here =
    let nobody : FoundMatch = record { rule = 0; node = node_id 0 0; bindings = [] } in
    let within = All-contains (λ n. n < length kept.matches) (listed lists holder) j (is.lists holder).within here in
    one_text kept lists by is f g fs gs j (get_or kept.matches j nobody) (slice_get-get_or kept.matches j nobody within)

outermost_same : (kept : Kept) (lists : Listing) (by : Writing) → IsNest kept lists → (f g : Texts) → AreTexts kept lists by f → AreTexts kept lists by g
    → outermost_list kept lists f ≡ outermost_list kept lists g
outermost_same kept lists by is f g fs gs = list_same kept f g (listed lists None) (known_same kept lists by is f g fs gs None)

pub all_same : (kept : Kept) (lists : Listing) (by : Writing) → IsNest kept lists → (f g : Texts) → AreTexts kept lists by f → AreTexts kept lists by g
    → all_clashes kept lists f ≡ all_clashes kept lists g
all_same kept lists by is f g fs gs =
    let each : ◌≡◌ {A = ℕ → ℕ → List Rewrite} (list_under kept lists f) (list_under kept lists g) =
    λ t n. lists_same kept lists f g n (λ i j h. known_same kept lists by is f g fs gs (Some (record { place = n; binding = i })) j h) t in
    let below : (ℕ → ℕ → List Rewrite) → List Clash = λ under. flat_map (λ p. clashes_under p.1 (under p.0)) (enumerate_from 0 kept.matches) in
    ap (λ (list : List Rewrite). clashes list ++ below (list_under kept lists f)) (outermost_same kept lists by is f g fs gs)
    ∙ ap (λ (under : ℕ → ℕ → List Rewrite). clashes (outermost_list kept lists g) ++ below under) each

pub one_edit : (kept : Kept) (lists : Listing) (by : Writing) → IsKept kept → AreLists kept lists → OneEdit kept lists by
one_edit kept lists by is are a b first second file =
    first.2.1 file
    ∙ (ap (edit_of kept.workspace file.0) (outermost_same kept lists by (is_nest kept lists is are) first.0 second.0 first.1 second.1) ∙ sym (second.2.1 file))

none_among : (all : List Clash) (c : Clash) → all ≡ [] → Contains all c → ⊥
none_among all c none h = let here : Contains [] c = subst (λ (all : List Clash). Contains all c) none h in let within = here.1 in omega arith

pub edits_or_clash : (kept : Kept) (lists : Listing) (by : Writing) → IsKept kept → AreLists kept lists → EditsOrClash kept lists by
edits_or_clash kept lists by is are edits earlier later first second =
    none_among (all_clashes kept lists second.0) (clash_of (earlier, later))
    (all_same kept lists by (is_nest kept lists is are) second.0 first.0 second.1 first.1 ∙ first.2.0) second.2.0

-- ** Edits fit.

pub change_fits : (w : Workspace) (file : ℕ) (r : Rewrite) → r.range.file ≡ file → LiesInFile w r.range → FitsIn w file (change_of r)
change_fits w file r same lies =
    subst (λ (file : ℕ). FitsIn w file (change_of r)) same (at (slice_get w.files r.range.file) lies)
  where
    at : (o : Option Syntax) → IsSomeAnd o (λ tree. IsSpanOf (source_of tree) r.range.span) → IsSomeAnd o (λ tree. FitsText (source_of tree) (change_of r))
    at None h = absurd h
    at (Some tree) h = (boundary_of (source_of tree) r.range.span.start h.begins, boundary_of (source_of tree) r.range.span.end h.ends)

changes_fit : (w : Workspace) (file : ℕ) (list : List Rewrite) → All (λ r. LiesInFile w r.range) list → All (FitsIn w file) (changes_made (filter (λ r. r.range.file == file) list))
changes_fit w file list lie =
    let here : Rewrite → Bool = λ r. r.range.file == file in
    All-map (FitsIn w file) change_of (dedup (λ r kept. same_range r.range kept.range) (filter here list))
    (All-dedup (λ r kept. same_range r.range kept.range) (λ r. FitsIn w file (change_of r)) (filter here list)
    (λ i d lt.
    let r = get_or (filter here list) i d in
    change_fits w file r (eqb-true r.range.file file (filter_passes here list i d lt)) (All-filter here (λ r. LiesInFile w r.range) list lie i d lt)))

-- changes of which there is one are those of a file
all_in_file : (w : Workspace) (file : ℕ) (cs changes : List Change) → All (FitsIn w file) cs → option_map (fitted_in w file) (some_changes cs) ≡ Some changes
    → IsSomeAnd (slice_get w.files file) (λ tree. All (FitsText (source_of tree)) changes)
all_in_file w file [] changes fit is = absurd (cc is)
all_in_file w file (c ∷ cs) changes fit is =
    subst (λ (cs : List Change). IsSomeAnd (slice_get w.files file) (λ tree. All (FitsText (source_of tree)) cs)) (same_Some (fitted_in w file (c ∷ cs)) changes is)
    (at (slice_get w.files file) (fit 0 c (omega arith)) (fitted_in w file (c ∷ cs)) (fits_in_file w file (c ∷ cs) fit))
  where
    at : (o : Option Syntax) → IsSomeAnd o (λ tree. FitsText (source_of tree) c) → (ds : List Change) → All (λ c. IsSomeAnd o (λ tree. FitsText (source_of tree) c)) ds
        → IsSomeAnd o (λ tree. All (FitsText (source_of tree)) ds)
    at None one ds fit = absurd one
    at (Some tree) one ds fit = fit

-- the rewrites of a list lie in their files
pub lie_in_files : (kept : Kept) (lists : Listing) (texts : Texts) → IsNest kept lists → All (λ r. LiesInFile kept.workspace r.range) (outermost_list kept lists texts)
lie_in_files kept lists texts is =
    All-map (λ r. LiesInFile kept.workspace r.range) (λ n. record { range = range_at kept n; text = texts n }) (listed lists None)
    (All-weaker (λ n. n < length kept.matches) (λ n. LiesInFile kept.workspace (range_at kept n)) (λ n lt. range_in_file kept lists is n lt) (listed lists None) (is.lists None).within)

-- the changes of a group of rewrites fit its file, which is there
pub group_fits_tree : (w : Workspace) (file : ℕ) (group : List Rewrite) (changes : List Change) → All (λ r. r.range.file ≡ file) group → All (λ r. LiesInFile w r.range) group
    → 0 < length group → changes ≡ changes_made group → FitsTree w file changes
group_fits_tree w file [] changes here lie some made = absurd (omega arith)
group_fits_tree w file (r ∷ rs) changes here lie some made =
    subst (FitsTree w file) (sym made) (at (slice_get w.files file) (each r first) (changes_made (r ∷ rs)) all)
  where
    first : r.range.file ≡ file × LiesInFile w r.range
    first = (All-head (λ r. r.range.file ≡ file) r rs here, All-head (λ r. LiesInFile w r.range) r rs lie)

    each : (r : Rewrite) → r.range.file ≡ file × LiesInFile w r.range → FitsIn w file (change_of r)
    each r is = change_fits w file r is.0 is.1

    all : All (FitsIn w file) (changes_made (r ∷ rs))
    all =
        All-map (FitsIn w file) change_of (dedup (λ r kept. same_range r.range kept.range) (r ∷ rs))
        (All-dedup (λ r kept. same_range r.range kept.range) (λ r. FitsIn w file (change_of r)) (r ∷ rs)
        (λ i d lt. let s = get_or (r ∷ rs) i d in change_fits w file s (here i d lt) (lie i d lt)))

    at : (o : Option Syntax) → IsSomeAnd o (λ tree. FitsText (source_of tree) (change_of r)) → (ds : List Change) → All (λ c. IsSomeAnd o (λ tree. FitsText (source_of tree) c)) ds
        → (tree : Syntax) × (o ≡ Some tree) × All (FitsText (source_of tree)) ds
    at None one ds fit = absurd one
    at (Some tree) one ds fit = (tree, refl, fit)

pub edits_fit : (kept : Kept) (lists : Listing) (by : Writing) → IsNest kept lists → (edits : BTreeMap FileId (List Change)) → Answers kept lists by (Ok edits)
    → EditsFit kept.workspace edits
edits_fit kept lists by is edits answer file changes at =
    all_in_file kept.workspace file.0 _ changes
    (changes_fit kept.workspace file.0 (outermost_list kept lists answer.0) (lie_in_files kept lists answer.0 is))
    (sym (answer.2.1 file) ∙ at)

-- ** Edits are in order.

first_none : (xs ys : List Clash) → xs ++ ys ≡ [] → xs ≡ []
first_none [] ys e = refl
first_none (x ∷ xs) ys e = absurd (cc e)

pub edits_ordered : (kept : Kept) (lists : Listing) (by : Writing) → IsNest kept lists → (edits : BTreeMap FileId (List Change)) → Answers kept lists by (Ok edits)
    → EditsInOrder edits
edits_ordered kept lists by is edits answer file changes at =
    edit_ordered kept.workspace file.0 (outermost_list kept lists answer.0) changes
    (list_in_order kept lists is None answer.0)
    (first_none (clashes (outermost_list kept lists answer.0)) _ answer.2.0)
    (sym (answer.2.1 file) ∙ at)
