-- Places that are passed from one byte to a later one, and the table of how many are at each token.
use Rattle.std.proofs.Common.{◌≡◌, ℕ, ◌+◌, ◌<◌, ◌≤◌, Bool, true, false, List, [], ◌∷◌, ◌++◌, length, get_or, drop, map, refl, sym, ap, ◌∙◌, inl, inr, arith, add-one, length-append}
use Rattle.std.specs.Prelude.{nat_lt, if◌then◌else◌}
use Rattle.std.proofs.Math.ListN.{get_or-append}
use Rattle.std.proofs.Math.Seq.{get_or-append_seam}
use Rattle.std.proofs.lemmas.Bool.{ltb-false, le-ltb, lt-ltb, cases_eq}
use Rattle.std.proofs.lemmas.List.{drop_more, drop-map}
use Rattle.ssr_syntax_kinds.specs.declared.range.TextRange.{TextRange}
use Rattle.ssr_syntax_tree.specs.Syntax.{Syntax, token_count}
use Rattle.ssr_syntax_tree.specs.Places.{node_of, offset_of, end_of}
use Rattle.ssr_base_trees.specs.Origins.{Span, span_of}
use Rattle.ssr_standing.specs.Around.{passed}
use Rattle.ssr_standing.specs.Private.Holes.{ArePassed}

drop_front : (place : Span) (places : List Span) (n : ℕ) → drop (n + 1) (place ∷ places) ≡ drop n places
drop_front place places n = rw add-one refl

-- those passed at a byte are passed at a later one, and the others are gone over from there on
pub passed_on : (places : List Span) (byte later : ℕ) → byte ≤ later
    → passed places byte + passed (drop (passed places byte) places) later ≡ passed places later
passed_on [] byte later h = refl
passed_on (place ∷ places) byte later h = by (nat_lt byte place.end) refl (passed_on places byte later h)
  where
    by : (b : Bool) → nat_lt byte place.end ≡ b → passed places byte + passed (drop (passed places byte) places) later ≡ passed places later
        → (if b then 0 else passed places byte + 1) + passed (drop (if b then 0 else passed places byte + 1) (place ∷ places)) later
        ≡ passed (place ∷ places) later
    by true e i = omega arith
    by false e i =
        rw (le-ltb later place.end (omega (arith, ltb-false byte place.end e)))
        (omega (arith, i, ap (λ left. passed left later) (drop_front place places (passed places byte))))

-- the places from a number on
places_at : (places : List TextRange) (n : ℕ) (place : TextRange) → n < length places → place ≡ get_or places n place
    → drop n (map span_of places) ≡ span_of place ∷ drop (n + 1) (map span_of places)
places_at places n place within is =
    drop-map span_of n places ∙ ap (map span_of) (drop_more places n place within)
    ∙ ap (λ (p : TextRange). span_of p ∷ map span_of (drop (n + 1) places)) (sym is)
    ∙ ap (λ left. span_of place ∷ left) (sym (drop-map span_of (n + 1) places))

-- a place more is passed
pub one_passed : (places : List TextRange) (n byte whole : ℕ) (place : TextRange) → n < length places → place ≡ get_or places n place → place.end ≤ byte
    → n + passed (drop n (map span_of places)) byte ≡ whole → (n + 1) + passed (drop (n + 1) (map span_of places)) byte ≡ whole
one_passed places n byte whole place within is behind so =
    let left : passed (drop n (map span_of places)) byte ≡ passed (drop (n + 1) (map span_of places)) byte + 1 =
    ap (λ left. passed left byte) (places_at places n place within is) ∙ rw (le-ltb byte place.end behind) refl in
    omega arith

-- the next one isn't
pub none_passed : (places : List TextRange) (n byte whole : ℕ) (place : TextRange) → n < length places → place ≡ get_or places n place → byte < place.end
    → n + passed (drop n (map span_of places)) byte ≡ whole → n ≡ whole
none_passed places n byte whole place within is ahead so =
    let left : passed (drop n (map span_of places)) byte ≡ 0 =
    ap (λ left. passed left byte) (places_at places n place within is) ∙ rw (lt-ltb byte place.end ahead) refl in
    omega arith

-- a token more in the table
pub one_known : (tree : Syntax) (places : List Span) (n m count : ℕ) (table : List ℕ) → m ≡ n + 1 → count ≡ passed places (offset_of tree n)
    → ArePassed tree places n table → ArePassed tree places m (table ++ count ∷ [])
one_known tree places n m count table next is known = record {
  counted = omega (arith, length-append table (count ∷ []), known.counted);
  each = λ t within. elim (cases_eq t n) [
    | inl same ↦
        let here : t ≡ length table = omega (arith, known.counted) in
        ap (λ i. get_or (table ++ count ∷ []) i 0) here
        ∙ get_or-append_seam table count [] 0 ∙ is ∙ ap (λ i. passed places (offset_of tree i)) (sym same)
    | inr other ↦
        get_or-append table (count ∷ []) 0 t (omega (arith, known.counted)) ∙ known.each t (omega arith)
  ];
}

pub end_of_root : (tree : Syntax) → end_of tree (node_of tree 0) ≡ offset_of tree (token_count tree.children)
unfolding node_of
end_of_root tree = let same : 0 + token_count tree.children ≡ token_count tree.children = omega arith in ap (offset_of tree) same
