-- The matches are gone through, one more at a time.
use Rattle.std.proofs.Common.{◌≡◌, ℕ, ◌+◌, ◌<◌, inl, inr, List, ◌∷◌, ◌++◌, set, drop, length, Option, Some, None, sym, ◌∙◌, ap, subst, arith}
use Rattle.std.specs.Prelude.{Contains, flat_map, slice_get, Result, Ok, Err}
use Rattle.std.specs.BTreeMap.{BTreeMap, get}
use Rattle.std.specs.List.{enumerate_from}
use Rattle.std.proofs.lemmas.Bool.{cases_eq}
use Rattle.std.proofs.lemmas.List.{drop_more, drop_all, get_or-set_same, get_or-set_other, length-set}
use Rattle.std.proofs.lemmas.List.Elements.{All-contains}
use Rattle.std.proofs.lemmas.Option.{get_or_from_slice_get, slice_get_within, same_Some}
use Rattle.ssr_base_trees.specs.declared.ids.FileId.{FileId}
use Rattle.ssr_base_trees.specs.declared.ids.FileRange.{FileRange}
use Rattle.ssr_base_trees.specs.Changes.{Change}
use Rattle.ide_ssr_bindings.specs.Found.{FoundMatch}
use Rattle.ide_ssr_nesting.specs.declared.holders.Holder.{Holder}
use Rattle.ide_ssr_nesting.specs.Holding.{Kept}
use Rattle.ide_ssr_nesting.specs.Lists.{Listing, listed}
use Rattle.ide_ssr_rewriting.specs.declared.editing.EditError.{EditError}
use Rattle.ide_ssr_rewriting.specs.declared.editing.EditError.TheVariants as errors
use Rattle.ide_ssr_rewriting.specs.Clashes.{Rewrite, Clash, IsFirst, clash_of, clashes}
use Rattle.ide_ssr_rewriting.specs.Private.Clashes.{lesser}
use Rattle.ide_ssr_rewriting.proofs.FirstClashes.{IsFirst-append}
use Rattle.ide_ssr_rewriting.specs.Private.Nest.{IsNest, under}
use Rattle.ide_ssr_rewriting.specs.Replacements.{Writing}
use Rattle.ide_ssr_rewriting.specs.Edits.{Answers, Texts, all_clashes, clashes_under, edit_of, file_cmp, list_at, list_under, outermost_list, text_by}
use Rattle.ide_ssr_rewriting.specs.Private.Edits.{IsRun, clashes_from, text_in, texts_of}
use Rattle.ide_ssr_rewriting.proofs.Texts.{are_texts, one_list, list_same, lists_same}

-- what is in the list of a placeholder is in that of no other one, nor among the outermost ones
one_holder : (kept : Kept) (listing : Listing) → IsNest kept listing → (n i m k j : ℕ) → Contains (under listing n i) j → Contains (under listing m k) j → n ≡ m
one_holder kept listing is n i m k j first second =
    let one : Holder = record { place = n; binding = i } in
    let other : Holder = record { place = m; binding = k } in
    ap (λ (h : Holder). h.place) (same_Some one other (one_list kept listing is (Some one) (Some other) j first second))

not_outermost : (kept : Kept) (listing : Listing) → IsNest kept listing → (n i j : ℕ) → Contains (under listing n i) j → Contains (listed listing None) j → ⊥
not_outermost kept listing is n i j first second =
    let wrong : ◌≡◌ {A = Option Holder} (Some (record { place = n; binding = i })) None =
    one_list kept listing is (Some (record { place = n; binding = i })) None j first second in
    cc

-- what is stored for the lists under a match are the texts
lists_known : (kept : Kept) (listing : Listing) (by : Writing) → IsNest kept listing → (n : ℕ) (stored : List (Option (List ℕ))) (clash : Option Clash)
    → IsRun kept listing by (n + 1) stored clash → list_under kept listing (text_in stored) n ≡ list_under kept listing (texts_of kept listing by) n
lists_known kept listing by is n stored clash run =
    lists_same kept listing (text_in stored) (texts_of kept listing by) n (λ i j h.
    let behind = is.before n i j h in
    let within = All-contains (λ n. n < length kept.matches) (under listing n i) j (is.lists (Some (record { place = n; binding = i }))).within h in
    run.known j (omega arith) within (λ k l le g. let same = one_holder kept listing is n i k l j h g in omega arith))

from_here : (kept : Kept) (n : ℕ) (m : FoundMatch) → slice_get kept.matches n ≡ Some m
    → enumerate_from n (drop n kept.matches) ≡ (n, m) ∷ enumerate_from (n + 1) (drop (n + 1) kept.matches)
from_here kept n m at =
    ap (enumerate_from n) (drop_more kept.matches n m (slice_get_within kept.matches n m at)
    ∙ ap (λ (x : FoundMatch). x ∷ drop (n + 1) kept.matches) (get_or_from_slice_get kept.matches n m m at))

clashes_here : (kept : Kept) (listing : Listing) (texts : Texts) (n : ℕ) (m : FoundMatch) → slice_get kept.matches n ≡ Some m
    → clashes_from kept listing texts n ≡ clashes_under m (list_under kept listing texts n) ++ clashes_from kept listing texts (n + 1)
clashes_here kept listing texts n m at = ap (λ (ms : List (ℕ × FoundMatch)). flat_map (λ p. clashes_under p.1 (list_under kept listing texts p.0)) ms) (from_here kept n m at)

pub run-more : (kept : Kept) (listing : Listing) (by : Writing) → IsNest kept listing → (n : ℕ) (m : FoundMatch) (stored cur : List (Option (List ℕ))) (text : Option (List ℕ)) (was now : Option Clash)
    → slice_get kept.matches n ≡ Some m → IsRun kept listing by (n + 1) stored was
    → length cur ≡ length stored → ((j : ℕ) → ((i : ℕ) → Contains (under listing n i) j → ⊥) → text_in cur j ≡ text_in stored j)
    → text ≡ text_by kept.workspace by m (list_under kept listing (text_in stored) n)
    → ((others : List Clash) → IsFirst others was → IsFirst (clashes_under m (list_under kept listing (text_in stored) n) ++ others) now)
    → IsRun kept listing by n (set cur n text) now
run-more kept listing by is n m stored cur text was now at run counted left made clash =
    let same = lists_known kept listing by is n stored was run in
    let lt = slice_get_within kept.matches n m at in
    let within : n < length cur = let a = run.counted in omega arith in
    record {
      counted = length-set cur n text ∙ (counted ∙ run.counted);
      known = λ j le lt free. elim (cases_eq j n) [
        | inl e ↦
            ap (text_in (set cur n text)) e
            ∙ (get_or-set_same cur n text None within
            ∙ (made ∙ (ap (text_by kept.workspace by m) same ∙ (sym (are_texts kept listing by is n m at) ∙ ap (texts_of kept listing by) (sym e)))))
        | inr other ↦
            get_or-set_other cur n j text None other
            ∙ (left j (λ i h. free n i (omega arith) h) ∙ run.known j (omega arith) lt (λ k i le h. free k i (omega arith) h))
      ];
      first = subst (λ (cs : List Clash). IsFirst cs now) (sym (clashes_here kept listing (texts_of kept listing by) n m at))
          (subst (λ (lists : ℕ → List Rewrite). IsFirst (clashes_under m lists ++ clashes_from kept listing (texts_of kept listing by) (n + 1)) now) same
          (clash (clashes_from kept listing (texts_of kept listing by) (n + 1)) run.first));
    }

pub run-starts : (kept : Kept) (listing : Listing) (by : Writing) (n : ℕ) (stored : List (Option (List ℕ))) (clash : Option Clash)
    → n ≡ length kept.matches → length stored ≡ n → clash ≡ None → IsRun kept listing by n stored clash
run-starts kept listing by n stored clash all counted none = record {
  counted = counted ∙ all;
  known = λ j le lt _. absurd (omega arith);
  first = subst (IsFirst (clashes_from kept listing (texts_of kept listing by) n)) (sym none)
      (ap (λ (ms : List FoundMatch). flat_map (λ p. clashes_under p.1 (list_under kept listing (texts_of kept listing by) p.0)) (enumerate_from n ms)) (drop_all n kept.matches (omega arith)));
}

-- what is stored for the outermost ones in the end are the texts
pub outermost_known : (kept : Kept) (listing : Listing) (by : Writing) → IsNest kept listing → (stored : List (Option (List ℕ))) (clash : Option Clash)
    → IsRun kept listing by 0 stored clash → list_at kept (text_in stored) (listed listing None) ≡ outermost_list kept listing (texts_of kept listing by)
outermost_known kept listing by is stored clash run =
    list_same kept (text_in stored) (texts_of kept listing by) (listed listing None) (λ j h.
    run.known j (omega arith) (All-contains (λ n. n < length kept.matches) (listed listing None) j (is.lists None).within h) (λ k i _ g. not_outermost kept listing is k i j g h))

-- ** The answer.

pub first_of_all : (kept : Kept) (listing : Listing) (by : Writing) → IsNest kept listing → (stored : List (Option (List ℕ))) (was first now : Option Clash) (list : List Rewrite)
    → IsRun kept listing by 0 stored was → list ≡ list_at kept (text_in stored) (listed listing None) → IsFirst (clashes list) first → now ≡ lesser first was
    → IsFirst (all_clashes kept listing (texts_of kept listing by)) now
first_of_all kept listing by is stored was first now list run taken told noted =
    let here : list ≡ outermost_list kept listing (texts_of kept listing by) = taken ∙ outermost_known kept listing by is stored was run in
    subst (IsFirst (all_clashes kept listing (texts_of kept listing by))) (sym noted)
    (IsFirst-append (clashes (outermost_list kept listing (texts_of kept listing by))) (clashes_from kept listing (texts_of kept listing by) 0) first was
    (subst (λ (list : List Rewrite). IsFirst (clashes list) first) here told) run.first)

pub edited : (kept : Kept) (listing : Listing) (by : Writing) → IsNest kept listing → (stored : List (Option (List ℕ))) (was now : Option Clash) (list : List Rewrite) (edits : BTreeMap FileId (List Change))
    → IsRun kept listing by 0 stored was → list ≡ list_at kept (text_in stored) (listed listing None) → IsFirst (all_clashes kept listing (texts_of kept listing by)) now → now ≡ None
    → ((file : FileId) → get file_cmp edits file ≡ edit_of kept.workspace file.0 list) → Answers kept listing by (Ok edits)
edited kept listing by is stored was now list edits run taken first none each = (
  texts_of kept listing by,
  are_texts kept listing by is,
  (
    subst (IsFirst (all_clashes kept listing (texts_of kept listing by))) none first,
    λ file. each file ∙ ap (edit_of kept.workspace file.0) (taken ∙ outermost_known kept listing by is stored was run),
  ),
)

pub clashed : (kept : Kept) (listing : Listing) (by : Writing) → IsNest kept listing → (earlier later : FileRange) (now : Option Clash)
    → IsFirst (all_clashes kept listing (texts_of kept listing by)) now → now ≡ Some (clash_of (earlier, later)) → Answers kept listing by (Err (errors.Clash earlier later))
clashed kept listing by is earlier later now first e =
    (texts_of kept listing by, are_texts kept listing by is, subst (IsFirst (all_clashes kept listing (texts_of kept listing by))) e first)

pub no_memory : (kept : Kept) (listing : Listing) (by : Writing) → IsNest kept listing → (result : Result (BTreeMap FileId (List Change)) EditError) → result ≡ Err errors.Memory → Answers kept listing by result
no_memory kept listing by is result e = subst (Answers kept listing by) (sym e) (texts_of kept listing by, are_texts kept listing by is, tt)
