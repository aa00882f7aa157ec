-- There is an answer to kept matches, their lists and by: edits, or the first clash.
use Rattle.std.proofs.Common.{◌≡◌, ℕ, ◌≤◌, true, cond, inl, inr, List, [], ◌∷◌, ◌++◌, All, map, filter, flat_map, slice_get, Option, Some, None, option_map, IsSomeAnd, refl, sym, ◌∙◌, ap, arith, eq-eqb, ne_eqb}
use Rattle.std.specs.BTreeMap.{BTreeMap, get, is_at}
use Rattle.std.specs.Cmp.{IsTotalOrder}
use Rattle.std.specs.FinMap.{entries, find, from_entries, get-entries, get-from_entries}
use Rattle.std_collections.specs.Layout.BTreeMap.{btree_map}
use Rattle.std.specs.List.{enumerate_from}
use Rattle.std.specs.Map.{lookup}
use Rattle.std.specs.Option.{option_map_or}
use Rattle.std.specs.Ordering.{is_le}
use Rattle.std.specs.Prelude.{unwrap_or}
use Rattle.std.proofs.lemmas.Bool.{cases_eq}
use Rattle.std.proofs.lemmas.Cmp.{nat_cmp_total, nat_list_cmp_total, tied_itself}
use Rattle.std.proofs.lemmas.List.Elements.{All-nil, All-cons, All-head, All-tail, All-append, All-contains, All-filter, All-map, All-weaker}
use Rattle.ssr_syntax_tree.proofs.Lists.{all_at, at_front}
use Rattle.ssr_base_trees.specs.declared.ids.FileId.{FileId}
use Rattle.ssr_base_trees.specs.declared.ids.FileRange.{FileRange}
use Rattle.ssr_base_trees.specs.Changes.{Change}
use Rattle.ssr_base_trees.specs.Workspace.{FileSpan, Workspace, original_range, trees}
use Rattle.ide_ssr_bindings.specs.Found.{FoundMatch, HasByte, IsMatch}
use Rattle.ide_ssr_nesting.specs.Holding.{IsKept, Kept}
use Rattle.ide_ssr_nesting.specs.Lists.{AreLists, Listing, listed, range_of}
use Rattle.ide_ssr_rewriting.specs.Clashes.{Rewrite, Clash, IsFirst, changes_made, clash_le, clashes, clashes_with, is_clash, range_key}
use Rattle.ide_ssr_rewriting.specs.Replacements.{Writing}
use Rattle.ide_ssr_rewriting.specs.Edits.{Texts, AreTexts, all_clashes, clashes_under, edit_of, file_cmp, list_at, list_under, nowhere, outermost_list, range_at, some_changes}
use Rattle.ide_ssr_rewriting.specs.Fitting.{fitted_in}
use Rattle.ide_ssr_rewriting.specs.Laws.{AnswerExists}
use Rattle.ide_ssr_rewriting.specs.Private.Clashes.{lesser}
use Rattle.ide_ssr_rewriting.specs.Private.Edits.{texts_of}
use Rattle.ide_ssr_rewriting.proofs.ChangesMade.{fresh_from}
use Rattle.ide_ssr_rewriting.proofs.FirstClashes.{IsFirst-append}
use Rattle.ide_ssr_rewriting.proofs.Groups.{in_file, same_file, some_of}
use Rattle.ide_ssr_rewriting.proofs.Nests.{is_nest}
use Rattle.ide_ssr_rewriting.proofs.Texts.{are_texts}

-- ** Edits.

-- the edit of a rewrite's file, beside the file
abbrev entry_of : Workspace → List Rewrite → Rewrite → FileId × List Change
entry_of w all r = (record { 0 = r.range.file }, fitted_in w r.range.file (changes_made (in_file r.range.file all)))

abbrev file_entries : Workspace → List Rewrite → List Rewrite → List (FileId × List Change)
file_entries w all rs = map (entry_of w all) rs

file_order : IsTotalOrder file_cmp
file_order = record {
  antisymm = λ a b. nat_cmp_total.antisymm a.0 b.0;
  trans = λ a b c. nat_cmp_total.trans a.0 b.0 c.0;
  congr = λ a b c. nat_cmp_total.congr a.0 b.0 c.0;
}

edits_of : Workspace → List Rewrite → BTreeMap FileId (List Change)
edits_of w all = btree_map (entries (from_entries {R = file_cmp} (file_entries w all all))) (inl tt)

-- what is looked up is what is found
looked_up : (es : List (FileId × List Change)) (file : FileId) → lookup (is_at (file_cmp file)) es ≡ find file_cmp file es
looked_up [] file = refl
looked_up (e ∷ es) file = ap (cond (is_at (file_cmp file) e.0) (Some e.1)) (looked_up es file)

-- the changes of a file, if there are rewrites of it
abbrev if_some : List Change → List Rewrite → Option (List Change)
if_some changes [] = None
if_some changes (r ∷ rs) = Some changes

found_in : (w : Workspace) (all rs : List Rewrite) (file : FileId)
    → find file_cmp file (file_entries w all rs) ≡ if_some (fitted_in w file.0 (changes_made (in_file file.0 all))) (in_file file.0 rs)
found_in w all [] file = refl
found_in w all (r ∷ rs) file =
    let here : FileId = record { 0 = r.range.file } in
    let own : Option (List Change) = Some (fitted_in w r.range.file (changes_made (in_file r.range.file all))) in
    ap (λ b. cond b own (find file_cmp file (file_entries w all rs))) (same_file file here)
    ∙ elim (cases_eq r.range.file file.0) [
      | inl same ↦ rw (eq-eqb r.range.file file.0 same) (ap (λ q. Some (fitted_in w q (changes_made (in_file q all)))) same)
      | inr other ↦ rw (ne_eqb r.range.file file.0 other) (found_in w all rs file)
    ]

made_of : (w : Workspace) (file : ℕ) (rs : List Rewrite) → if_some (fitted_in w file (changes_made rs)) rs ≡ option_map (fitted_in w file) (some_changes (changes_made rs))
made_of w file [] = refl
made_of w file (r ∷ rs) = ap (option_map (fitted_in w file)) (sym (some_of (changes_made (r ∷ rs)) _ _ (ap (map _) (fresh_from r rs))))

edits_are : (w : Workspace) (all : List Rewrite) (file : FileId) → get file_cmp (edits_of w all) file ≡ edit_of w file.0 all
unfolding edits_of
edits_are w all file =
    let m = from_entries {R = file_cmp} (file_entries w all all) in
    looked_up (entries m) file
    ∙ (sym (get-entries m file)
    ∙ (get-from_entries file_order (file_entries w all all) file
    ∙ (found_in w all all file ∙ made_of w file.0 (in_file file.0 all))))

-- ** The first clash.

clash_le-itself : (c : Clash) → clash_le c c ≡ true
unfolding clash_le
clash_le-itself c = ap is_le (tied_itself nat_list_cmp_total (range_key c.earlier ++ range_key c.later))

first_exists : (cs : List Clash) → (first : Option Clash) × IsFirst cs first
first_exists [] = (None, refl)
first_exists (c ∷ cs) =
    let rest = first_exists cs in
    let alone : IsFirst (c ∷ []) (Some c) =
    (at_front c [], All-cons (λ d. clash_le c d ≡ true) c [] (clash_le-itself c) (All-nil (λ d. clash_le c d ≡ true))) in
    (lesser (Some c) rest.0, IsFirst-append (c ∷ []) cs (Some c) rest.0 alone rest.1)

-- its ranges are ranges of files
abbrev IsForward : FileSpan → Type 0
IsForward range = range.span.start ≤ range.span.end

abbrev AreForward : Clash → Type 0
AreForward c = IsForward c.earlier × IsForward c.later

abbrev range_from : (range : FileSpan) → IsForward range → FileRange
range_from range forward = record { file_id = record { 0 = range.file }; range = record { start = range.span.start; end = range.span.end; ordered = forward } }

clashes_forward : (list : List Rewrite) → All (λ r. IsForward r.range) list → All AreForward (clashes list)
clashes_forward [] all = All-nil AreForward
clashes_forward (r ∷ rs) all =
    let rest = All-tail (λ r. IsForward r.range) r rs all in
    All-append AreForward (clashes_with r rs) (clashes rs)
    (All-map AreForward (λ s. record { earlier = r.range; later = s.range }) (filter (is_clash r) rs)
    (All-weaker (λ s. IsForward s.range) (λ s. IsForward r.range × IsForward s.range) (λ s forward. (All-head (λ r. IsForward r.range) r rs all, forward))
    (filter (is_clash r) rs) (All-filter (is_clash r) (λ s. IsForward s.range) rs rest)))
    (clashes_forward rs rest)

all_flat : {X Y : Type 0} (P : Y → Type 0) (f : X → List Y) → ((x : X) → All P (f x)) → (xs : List X) → All P (flat_map f xs)
all_flat P f each [] = All-nil P
all_flat P f each (x ∷ xs) = All-append P (f x) (flat_map f xs) (each x) (all_flat P f each xs)

module _ (kept : Kept) (known : IsKept kept) where
  at_forward : (n : ℕ) → IsForward (range_at kept n)
  at_forward n = of_match (slice_get kept.matches n) refl
    where
      of_range : (o : Option FileSpan) → IsSomeAnd o HasByte → IsForward (unwrap_or o nowhere)
      of_range None byte = absurd byte
      of_range (Some range) byte = omega arith

      of_match : (o : Option FoundMatch) → slice_get kept.matches n ≡ o → IsForward (option_map_or (range_of (trees kept.workspace)) o nowhere)
      of_match None is = omega arith
      of_match (Some m) is =
          of_range (original_range (trees kept.workspace) m.node) (all_at (IsMatch (trees kept.workspace)) kept.matches n m known.held.each is).range

  all_forward : (lists : Listing) (texts : Texts) → All AreForward (all_clashes kept lists texts)
  all_forward lists texts =
      All-append AreForward (clashes (outermost_list kept lists texts))
      (flat_map (λ p. clashes_under p.1 (list_under kept lists texts p.0)) (enumerate_from 0 kept.matches))
      (of_list (listed lists None))
      (all_flat AreForward (λ (p : ℕ × FoundMatch). clashes_under p.1 (list_under kept lists texts p.0))
      (λ p. all_flat AreForward (λ q. clashes (list_under kept lists texts p.0 q.0))
      (λ q. of_list (listed lists (Some (record { place = p.0; binding = q.0 })))) (enumerate_from 0 p.1.bindings))
      (enumerate_from 0 kept.matches))
    where
      of_list : (places : List ℕ) → All AreForward (clashes (list_at kept texts places))
      of_list places =
          clashes_forward (list_at kept texts places)
          (All-map (λ r. IsForward r.range) (λ n. record { range = range_at kept n; text = texts n }) places (λ i d within. at_forward _))

  pub answer_exists : (lists : Listing) (by : Writing) → AreLists kept lists → AnswerExists kept lists by
  answer_exists lists by are = with_texts (texts_of kept lists by) (are_texts kept lists by (is_nest kept lists known are))
    where
      with_texts : (texts : Texts) → AreTexts kept lists by texts → AnswerExists kept lists by
      with_texts texts of_these = told (first_exists (all_clashes kept lists texts)).0 (first_exists (all_clashes kept lists texts)).1
        where
          told : (first : Option Clash) → IsFirst (all_clashes kept lists texts) first → AnswerExists kept lists by
          told None none = inl (edits_of kept.workspace (outermost_list kept lists texts), (texts, of_these, (none, edits_are kept.workspace (outermost_list kept lists texts))))
          told (Some c) first =
              let forward = All-contains AreForward (all_clashes kept lists texts) c (all_forward lists texts) first.0 in
              inr (range_from c.earlier forward.0, range_from c.later forward.1, (texts, of_these, first))
