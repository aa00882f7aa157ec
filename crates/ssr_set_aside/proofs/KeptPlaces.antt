-- Laws of changes that keep the place of each byte outside of them.
use Rattle.std.proofs.Common.{arith, ◌≡◌, ℕ, ◌≤◌, Bool, true, List, [], ◌∷◌, length, map, drop, subst, sym, ◌∙◌}
use Rattle.std.specs.Prelude.{◌==◌}
use Rattle.std.specs.List.{All}
use Rattle.std.proofs.lemmas.Bool.{eqb-true}
use Rattle.std.proofs.lemmas.List.{drop_all}
use Rattle.std.proofs.lemmas.List.Elements.{All-cons, All-nil}
use Rattle.ssr_base_trees.specs.Changes.{Change, ChangesInOrder, FitsText, IsReplaced, same}
use Rattle.ssr_syntax_kinds.specs.declared.range.TextRange.{TextRange}
use Rattle.ssr_syntax_kinds.specs.declared.reach.Reach.TheVariants.{Whole}
use Rattle.ssr_base_trees.specs.Origins.{Span, span_of}
use Rattle.ssr_syntax_tree.specs.Syntax.{Syntax, source_of}
use Rattle.ssr_syntax.specs.Reading as reading
use Rattle.ssr_set_aside.specs.Parts.{no_parts}
use Rattle.ssr_set_aside.specs.SetAside.{SetAside, AreCovered, BeginInOrder, Covers, AreBlanked, IsBlanked, IsRead, IsSetAside, KeepsLength, none, other, one}

-- the changes from some place on are in order if those from the next one on are
pub order_from : (at : ℕ) (c : Change) (cs left : List Change) → left ≡ c ∷ cs → at ≤ c.start → c.start ≤ c.end
    → ChangesInOrder c.end cs → ChangesInOrder at left
order_from at c cs left is h l o = rw is (h, l, o)

pub lengths_from : (c : Change) (cs left : List Change) → left ≡ c ∷ cs → KeepsLength c → All KeepsLength cs → All KeepsLength left
lengths_from c cs left is k all = subst (All KeepsLength) (sym is) (All-cons KeepsLength c cs k all)

-- the changes from some place on have their reaches if those from the next one on have
pub covered_from : (c : Change) (cs left : List Change) (reach : Span) (others reaches : List Span) → left ≡ c ∷ cs → reaches ≡ reach ∷ others
    → Covers reach c → AreCovered cs others → AreCovered left reaches
covered_from c cs left reach others reaches is are over all = rw (is, are) (over, all)

pub begin_from : (from : ℕ) (reach : Span) (others reaches : List Span) → reaches ≡ reach ∷ others → from ≤ reach.start
    → BeginInOrder reach.start others → BeginInOrder from reaches
begin_from from reach others reaches are h o = rw are (h, o)

-- the changes from some place on replace these spans if they do so once they are written as the first of them and the others
pub all_from : (cs left : List Change) (spans : List Span) → left ≡ cs → AreBlanked cs spans → AreBlanked left spans
all_from cs left spans is are = subst (λ (left : List Change). AreBlanked left spans) (sym is) are

-- no change is left, and no range
pub blanked_none : (cs : List Change) (i : ℕ) (left : List TextRange) (b : Bool) → length cs ≤ i → b ≡ (length left == 0) → b ≡ true
    → AreBlanked (drop i cs) (map span_of left)
blanked_none cs i [] b h is holds = rw (drop_all i cs h) none
blanked_none cs i (first ∷ others) b h is holds =
    let nothing : length (first ∷ others) ≡ 0 = eqb-true (length (first ∷ others)) 0 (sym is ∙ holds) in absurd (omega (arith, nothing))

-- the first change replaces the first range by blanks, or another one does
pub blanked_from : (c : Change) (cs : List Change) (first : TextRange) (others ranges : List TextRange) → ranges ≡ first ∷ others
    → IsBlanked (span_of first) c → AreBlanked cs (map span_of others) → AreBlanked (c ∷ cs) (map span_of ranges)
blanked_from c cs first others ranges are blanked all =
    let here : AreBlanked (c ∷ cs) (span_of first ∷ map span_of others) = one c cs (span_of first) (map span_of others) blanked all in
    rw are here

pub blanked_later : (c : Change) (cs : List Change) (spans : List Span) → AreBlanked cs spans → AreBlanked (c ∷ cs) spans
blanked_later c cs spans all = other c cs spans all

-- nothing is set aside of a text that is searched as it stands
pub as_it_stands : (text : List ℕ) (made : SetAside) → source_of made.tree ≡ text → made.aside ≡ [] → made.reaches ≡ [] → made.unsearched ≡ []
    → IsSetAside text made
as_it_stands text made is empty no_reach all = record {
  order = subst (ChangesInOrder 0) (sym empty) tt;
  fits = subst (All (FitsText text)) (sym empty) (All-nil (FitsText text));
  lengths = subst (All KeepsLength) (sym empty) (All-nil KeepsLength);
  replaced = subst (λ (cs : List Change). IsReplaced 0 text cs (source_of made.tree)) (sym empty) (subst (IsReplaced 0 text []) (sym is) (same 0 text));
  covered = rw (empty, no_reach) tt;
  blanks = rw (empty, all) none;
  parts = rw (empty, all) no_parts;
}

-- what is set aside keeps the tree that is read
pub is_read : (made : SetAside) (tree : Syntax) → made.tree ≡ tree → reading.IsReadOf Whole tree → IsRead made
is_read made tree is read = subst (reading.IsReadOf Whole) (sym is) read
