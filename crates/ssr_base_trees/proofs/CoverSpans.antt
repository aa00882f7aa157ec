-- Laws of what covers origins: what covers some tokens lies in what covers more, and its ends are ends of origins.
use Rattle.std.proofs.Common.{◌≡◌, ℕ, ◌+◌, ◌-◌, ◌<◌, ◌≤◌, ◌&&◌, min, max, true, List, [], ◌∷◌, take, drop, Option, Some, None, refl, sym, ap, ◌∙◌, subst, inl, inr, arith}
use Rattle.std.proofs.lemmas.Bool.{cases_lt, and_parts, and_from, ltb-true, lt-ltb}
use Rattle.std.proofs.lemmas.List.Elements.{All-head, All-tail}
use Rattle.std.specs.Prelude.{⊤, nat_lt}
use Rattle.std.specs.List.{AllPass}
use Rattle.ssr_base_trees.specs.Origins.{Span, Cover, no_token, no_origin, covers, join, cover_of_one, cover_of, covered, fits_origin}
use Rattle.ssr_base_trees.specs.Texts.{is_boundary}
use Rattle.ssr_base_trees.proofs.CoverLaws.{two_runs}

-- ** Covers of fewer tokens.

-- a span lies in another one
pub record IsInside (outer inner : Span) : Type 0 where
  pub begins : outer.start ≤ inner.start
  pub ends : inner.end ≤ outer.end

-- what covers the middle one of three lies in what covers all
inside_joined : (front middle behind : Cover) (inner outer : Span) → covered middle ≡ Some inner → covered (join front (join middle behind)) ≡ Some outer
    → IsInside outer inner
inside_joined front no_token behind inner outer is all = cc
inside_joined front no_origin behind inner outer is all = cc
inside_joined no_origin (covers m) behind inner outer is all = cc
inside_joined no_token (covers m) no_origin inner outer is all = cc
inside_joined (covers f) (covers m) no_origin inner outer is all = cc
inside_joined no_token (covers m) no_token inner outer is all =
    let inner_is : m ≡ inner = cc in
    let outer_is : m ≡ outer = cc in
    subst (IsInside outer) inner_is (subst (λ o. IsInside o m) outer_is (record { begins = omega arith; ends = omega arith }))
inside_joined no_token (covers m) (covers b) inner outer is all =
    let both : Span = record { start = min m.start b.start; end = max m.end b.end } in
    let inner_is : m ≡ inner = cc in
    let outer_is : both ≡ outer = cc in
    subst (IsInside outer) inner_is (subst (λ o. IsInside o m) outer_is (record { begins = omega arith; ends = omega arith }))
inside_joined (covers f) (covers m) no_token inner outer is all =
    let both : Span = record { start = min f.start m.start; end = max f.end m.end } in
    let inner_is : m ≡ inner = cc in
    let outer_is : both ≡ outer = cc in
    subst (IsInside outer) inner_is (subst (λ o. IsInside o m) outer_is (record { begins = omega arith; ends = omega arith }))
inside_joined (covers f) (covers m) (covers b) inner outer is all =
    let three : Span = record { start = min f.start (min m.start b.start); end = max f.end (max m.end b.end) } in
    let inner_is : m ≡ inner = cc in
    let outer_is : three ≡ outer = cc in
    subst (IsInside outer) inner_is (subst (λ o. IsInside o m) outer_is (record { begins = omega arith; ends = omega arith }))

pub fewer_inside : (origins : List (Option Span)) (first count from few : ℕ) (inner outer : Span) → first ≤ from → from + few ≤ first + count
    → covered (cover_of (take few (drop from origins))) ≡ Some inner → covered (cover_of (take count (drop first origins))) ≡ Some outer → IsInside outer inner
fewer_inside origins first count from few inner outer starts ends is all =
    let front = from - first in
    let behind = first + count - (from + few) in
    let parts : count ≡ front + (few + behind) = omega arith in
    let at : first + front ≡ from = omega arith in
    let run : (t n : ℕ) → Cover = λ t n. cover_of (take n (drop t origins)) in
    let split : run first count ≡ join (run first front) (join (run from few) (run (from + few) behind)) =
    ap (run first) parts
    ∙ two_runs origins first front (few + behind)
    ∙ ap (λ t. join (run first front) (run t (few + behind))) at
    ∙ ap (join (run first front)) (two_runs origins from few behind) in
    inside_joined (run first front) (run from few) (run (from + few) behind) inner outer is (ap covered (sym split) ∙ all)

-- ** Where covers begin and end.

pub record FitsSpan (text : List ℕ) (span : Span) : Type 0 where
  pub holds : span.start < span.end
  pub begins : is_boundary text span.start ≡ true
  pub ends : is_boundary text span.end ≡ true

pub fits_parts : (text : List ℕ) (span : Span) → fits_origin text (Some span) ≡ true → FitsSpan text span
fits_parts text span fits =
    let first = and_parts (nat_lt span.start span.end) (is_boundary text span.start && is_boundary text span.end) fits in
    let both = and_parts (is_boundary text span.start) (is_boundary text span.end) first.1 in
    record { holds = ltb-true span.start span.end first.0; begins = both.0; ends = both.1 }

fits_from : (text : List ℕ) (span : Span) → FitsSpan text span → fits_origin text (Some span) ≡ true
fits_from text span fits =
    and_from (nat_lt span.start span.end) (is_boundary text span.start && is_boundary text span.end)
    (lt-ltb span.start span.end fits.holds)
    (and_from (is_boundary text span.start) (is_boundary text span.end) fits.begins fits.ends)

-- a fact of two numbers is one of the lesser and of the greater one
of_min : (P : ℕ → Type 0) (a b : ℕ) → P a → P b → P (min a b)
of_min P a b left right =
    elim (cases_lt a b) [
      | inl less ↦ subst P (let is : a ≡ min a b = omega arith in is) left
      | inr more ↦ subst P (let is : b ≡ min a b = omega arith in is) right
    ]

of_max : (P : ℕ → Type 0) (a b : ℕ) → P a → P b → P (max a b)
of_max P a b left right =
    elim (cases_lt a b) [
      | inl less ↦ subst P (let is : b ≡ max a b = omega arith in is) right
      | inr more ↦ subst P (let is : a ≡ max a b = omega arith in is) left
    ]

abbrev FitsCover : List ℕ → Cover → Type 0
FitsCover text no_token = ⊤
FitsCover text no_origin = ⊤
FitsCover text (covers span) = FitsSpan text span

fits_join : (text : List ℕ) (a b : Cover) → FitsCover text a → FitsCover text b → FitsCover text (join a b)
fits_join text no_token b left right = right
fits_join text no_origin b left right = left
fits_join text (covers a) no_token left right = left
fits_join text (covers a) no_origin left right = right
fits_join text (covers a) (covers b) left right =
    let first = left.holds in
    let second = right.holds in
    record {
      holds = omega arith;
      begins = of_min (λ n. is_boundary text n ≡ true) a.start b.start left.begins right.begins;
      ends = of_max (λ n. is_boundary text n ≡ true) a.end b.end left.ends right.ends;
    }

fits_one : (text : List ℕ) (origin : Option Span) → fits_origin text origin ≡ true → FitsCover text (cover_of_one origin)
fits_one text None fits = tt
fits_one text (Some span) fits = fits_parts text span fits

fits_cover : (text : List ℕ) (origins : List (Option Span)) → AllPass (fits_origin text) origins → FitsCover text (cover_of origins)
fits_cover text [] fit = tt
fits_cover text (origin ∷ origins) fit =
    fits_join text (cover_of_one origin) (cover_of origins)
    (fits_one text origin (All-head (λ o. fits_origin text o ≡ true) origin origins fit))
    (fits_cover text origins (All-tail (λ o. fits_origin text o ≡ true) origin origins fit))

fits_covered : (text : List ℕ) (cover : Cover) → FitsCover text cover → fits_origin text (covered cover) ≡ true
fits_covered text no_token fits = refl
fits_covered text no_origin fits = refl
fits_covered text (covers span) fits = fits_from text span fits

-- the cover of origins that fit is one
pub fit_covered : (text : List ℕ) (origins : List (Option Span)) → AllPass (fits_origin text) origins → fits_origin text (covered (cover_of origins)) ≡ true
fit_covered text origins fit = fits_covered text (cover_of origins) (fits_cover text origins fit)
