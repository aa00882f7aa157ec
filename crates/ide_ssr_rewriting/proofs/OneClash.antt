-- One clash is told: the first one of all.
use Rattle.std.proofs.Common.{◌≡◌, ◌∙◌, ℕ, true, List, ◌++◌, Some, Err, refl, ap, subst, Ordering, Less, Equal, Greater, get_or}
use Rattle.std.specs.Cmp.Lexicographic.{slice_cmp}
use Rattle.std.specs.FinMap.{nat_cmp-IsAntisymmetric, slice_cmp-IsAntisymmetric}
use Rattle.std.specs.Ordering.{is_le, nat_cmp, ordering_reverse}
use Rattle.std.proofs.lemmas.Cmp.{nat_list_cmp_total}
use Rattle.std.proofs.lemmas.List.Elements.{All-contains}
use Rattle.ssr_base_trees.specs.declared.ids.FileRange.{FileRange}
use Rattle.ide_ssr_nesting.specs.Holding.{IsKept, Kept}
use Rattle.ide_ssr_nesting.specs.Lists.{AreLists, Listing}
use Rattle.ide_ssr_rewriting.specs.declared.editing.EditError.TheVariants as errors
use Rattle.ide_ssr_rewriting.specs.Clashes.{Clash, IsFirst, clash_le, clash_of, range_key}
use Rattle.ide_ssr_rewriting.specs.Edits.{Answers, all_clashes}
use Rattle.ide_ssr_rewriting.specs.Replacements.{Writing}
use Rattle.ide_ssr_rewriting.proofs.Answering.{all_same}
use Rattle.ide_ssr_rewriting.proofs.Nests.{is_nest}

abbrev key : Clash → List ℕ
key c = range_key c.earlier ++ range_key c.later

both_le : (o : Ordering) → is_le o ≡ true → is_le (ordering_reverse o) ≡ true → o ≡ Equal
both_le Less le other = absurd (cc other)
both_le Equal le other = refl
both_le Greater le other = absurd (cc le)

abbrev made : ℕ → ℕ → ℕ → ℕ → ℕ → ℕ → Clash
made f s e g t u = record {
  earlier = record { file = f; span = record { start = s; end = e } };
  later = record { file = g; span = record { start = t; end = u } };
}

-- a clash is known by its key
same_key : (c d : Clash) → key c ≡ key d → c ≡ d
same_key c d same =
    let at : (i : ℕ) → get_or (key c) i 0 ≡ get_or (key d) i 0 = λ i. ap (λ (ns : List ℕ). get_or ns i 0) same in
    ap (λ n. made n c.earlier.span.start c.earlier.span.end c.later.file c.later.span.start c.later.span.end) (at 0)
    ∙ ap (λ n. made d.earlier.file n c.earlier.span.end c.later.file c.later.span.start c.later.span.end) (at 1)
    ∙ ap (λ n. made d.earlier.file d.earlier.span.start n c.later.file c.later.span.start c.later.span.end) (at 2)
    ∙ ap (λ n. made d.earlier.file d.earlier.span.start d.earlier.span.end n c.later.span.start c.later.span.end) (at 3)
    ∙ ap (λ n. made d.earlier.file d.earlier.span.start d.earlier.span.end d.later.file n c.later.span.end) (at 4)
    ∙ ap (λ n. made d.earlier.file d.earlier.span.start d.earlier.span.end d.later.file d.later.span.start n) (at 5)

same_clash : (c d : Clash) → clash_le c d ≡ true → clash_le d c ≡ true → c ≡ d
unfolding clash_le
same_clash c d le other =
    let back : is_le (ordering_reverse (slice_cmp nat_cmp (key c) (key d))) ≡ true =
    subst (λ (o : Ordering). is_le o ≡ true) (nat_list_cmp_total.antisymm (key d) (key c)) other in
    same_key c d (slice_cmp-IsAntisymmetric nat_cmp-IsAntisymmetric (key c) (key d) (both_le (slice_cmp nat_cmp (key c) (key d)) le back))

one_first : (clashes : List Clash) (c d : Clash) → IsFirst clashes (Some c) → IsFirst clashes (Some d) → c ≡ d
one_first clashes c d first other =
    same_clash c d (All-contains (λ x. clash_le c x ≡ true) clashes d first.1 other.0) (All-contains (λ x. clash_le d x ≡ true) clashes c other.1 first.0)

-- all clashes that are answered are the same
abbrev pub OneClash : Kept → Listing → Writing → Type 0
OneClash kept lists by =
    (a b c d : FileRange) → Answers kept lists by (Err (errors.Clash a b)) → Answers kept lists by (Err (errors.Clash c d)) → clash_of (a, b) ≡ clash_of (c, d)

pub one_clash : (kept : Kept) (lists : Listing) (by : Writing) → IsKept kept → AreLists kept lists → OneClash kept lists by
one_clash kept lists by is are a b c d first second =
    one_first (all_clashes kept lists second.0) (clash_of (a, b)) (clash_of (c, d))
    (subst (λ (all : List Clash). IsFirst all (Some (clash_of (a, b)))) (all_same kept lists by (is_nest kept lists is are) first.0 second.0 first.1 second.1) first.2)
    second.2
