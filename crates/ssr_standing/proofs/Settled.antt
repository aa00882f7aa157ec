-- What is told of changes one by one: as what each is made, if it is made at all.
use Rattle.std.proofs.Common.{◌≡◌, ℕ, ◌+◌, ◌<◌, ◌≤◌, Bool, true, false, List, [], ◌∷◌, ◌++◌, All, get_or, length, map, take, Option, None, Some, String, append-nil, refl, sym, ◌∙◌, ap, subst, arith}
use Rattle.std.specs.Prelude.{if◌then◌else◌}
use Rattle.std.specs.Global.{Global}
use Rattle.std.specs.List.{cons_option, filter_map}
use Rattle.std.specs.Option.{option_or, unwrap_or}
use Rattle.std.specs.Str.{IsCharBoundary}
use Rattle.std.proofs.lemmas.List.{map-append, take_more}
use Rattle.std.proofs.lemmas.List.Elements.{All-cons, All-head, All-nil, All-tail, filter_map-append}
use Rattle.ssr_syntax_kinds.specs.declared.range.TextRange.{TextRange}
use Rattle.ssr_base_trees.specs.Applied.{change_of, changes_of}
use Rattle.ssr_base_trees.specs.Changes.{Change, ChangesInOrder, FitsText}
use Rattle.ssr_standing.specs.Fitted.{fitted, if_fitted, in_parentheses}
use Rattle.ssr_standing.specs.Near.{settled}
use Rattle.ssr_standing.specs.declared.fitted.Judge.{Judge}
use Rattle.ssr_standing.specs.declared.fitted.Judge.TheVariants as judges

-- ** Parentheses leave the places of changes.

-- what is made of a change stands where the change does
abbrev pub IsInPlace : Change → Option Change → Type 0
IsInPlace c None = Unit {0}
IsInPlace c (Some d) = (d.start ≡ c.start) × (d.end ≡ c.end)

pub fitted_in_place : (stands : Change → Bool) (c : Change) → IsInPlace c (if_fitted stands c)
fitted_in_place stands c = by (stands (fitted stands c)) (stands c)
  where
    by : (b d : Bool) → IsInPlace c (if b then Some (if d then c else in_parentheses c) else None)
    by true true = (refl, refl)
    by true false = (refl, refl)
    by false d = tt

either_in_place : (c : Change) (o p : Option Change) → IsInPlace c o → IsInPlace c p → IsInPlace c (option_or o p)
either_in_place c None p first second = second
either_in_place c (Some d) p first second = first

pub settled_in_place : (by : Judge → Change → Bool) (c : Change) → IsInPlace c (settled by c)
settled_in_place by c =
    either_in_place c (if_fitted (by judges.Block) c) (if_fitted (by judges.File) c) (fitted_in_place (by judges.Block) c)
    (fitted_in_place (by judges.File) c)

-- ** So changes stay in order, and in their text.

earlier : (at from : ℕ) (cs : List Change) → at ≤ from → ChangesInOrder from cs → ChangesInOrder at cs
earlier at from [] less order = tt
earlier at from (c ∷ cs) less order = (omega (arith, order.0), order.1, order.2)

module _ (tell : Change → Option Change) (in_place : (c : Change) → IsInPlace c (tell c)) where
  -- those that are made
  pub order_told : (at : ℕ) (cs : List Change) → ChangesInOrder at cs → ChangesInOrder at (filter_map tell cs)
  order_told at [] order = tt
  order_told at (c ∷ cs) order = by (tell c) (in_place c) (order_told c.end cs order.2)
    where
      by : (o : Option Change) → IsInPlace c o → ChangesInOrder c.end (filter_map tell cs) → ChangesInOrder at (cons_option o (filter_map tell cs))
      by None its rest = earlier at c.end (filter_map tell cs) (omega (arith, order.0, order.1)) rest
      by (Some d) its rest =
          (omega (arith, order.0, its.0), omega (arith, order.1, its.0, its.1), subst (λ n. ChangesInOrder n (filter_map tell cs)) (sym its.1) rest)

  -- all, where the others stay as they are
  pub order_all : (at : ℕ) (cs : List Change) → ChangesInOrder at cs → ChangesInOrder at (map (λ c. unwrap_or (tell c) c) cs)
  order_all at [] order = tt
  order_all at (c ∷ cs) order = by (tell c) (in_place c) (order_all c.end cs order.2)
    where
      by : (o : Option Change) → IsInPlace c o → ChangesInOrder c.end (map (λ c. unwrap_or (tell c) c) cs)
          → ChangesInOrder at (unwrap_or o c ∷ map (λ c. unwrap_or (tell c) c) cs)
      by None its rest = (order.0, order.1, rest)
      by (Some d) its rest = (
        omega (arith, order.0, its.0),
        omega (arith, order.1, its.0, its.1),
        subst (λ n. ChangesInOrder n (map (λ c. unwrap_or (tell c) c) cs)) (sym its.1) rest,
      )

  -- one of them fits the text that it did
  pub fits_told : (text : List ℕ) (c : Change) → FitsText text c → FitsText text (unwrap_or (tell c) c)
  fits_told text c fit = by (tell c) (in_place c)
    where
      by : (o : Option Change) → IsInPlace c o → FitsText text (unwrap_or o c)
      by None its = fit
      by (Some d) its = (subst (IsCharBoundary text) (sym its.0) fit.0, subst (IsCharBoundary text) (sym its.1) fit.1)

  -- and so do those that are made
  pub fit_told : (text : List ℕ) (cs : List Change) → All (FitsText text) cs → All (FitsText text) (filter_map tell cs)
  fit_told text [] all = All-nil (FitsText text)
  fit_told text (c ∷ cs) all = by (tell c) (fits_told text c (All-head (FitsText text) c cs all)) (fit_told text cs (All-tail (FitsText text) c cs all))
    where
      by : (o : Option Change) → FitsText text (unwrap_or o c) → All (FitsText text) (filter_map tell cs) → All (FitsText text) (cons_option o (filter_map tell cs))
      by None fit rest = rest
      by (Some d) fit rest = All-cons (FitsText text) d (filter_map tell cs) fit rest

-- ** One change more.

module _ (tell : Change → Option Change) (cs : List Change) (i : ℕ) (d : Change) (less : i < length cs) (its : get_or cs i d ≡ d) where
  more : filter_map tell (take (i + 1) cs) ≡ filter_map tell (take i cs) ++ cons_option (tell d) []
  more =
      ap (filter_map tell) (take_more cs i d less ∙ ap (λ (x : Change). take i cs ++ x ∷ []) its)
      ∙ filter_map-append tell (take i cs) (d ∷ [])

  pub told_more : (e : Change) → Some e ≡ tell d → filter_map tell (take i cs) ++ e ∷ [] ≡ filter_map tell (take (i + 1) cs)
  told_more e is = ap (λ o. filter_map tell (take i cs) ++ cons_option o []) is ∙ sym more

  pub untold_more : None ≡ tell d → filter_map tell (take i cs) ≡ filter_map tell (take (i + 1) cs)
  untold_more is =
      sym (append-nil (filter_map tell (take i cs))) ∙ ap (λ o. filter_map tell (take i cs) ++ cons_option o []) is ∙ sym more

-- a change with another text behind others
pub text_behind : (made new : List (TextRange × String Global)) (range : TextRange) (text : String Global)
    → new ≡ made ++ (range, text) ∷ [] → changes_of new ≡ changes_of made ++ change_of (range, text) ∷ []
text_behind made new range text is = ap changes_of is ∙ map-append change_of made ((range, text) ∷ [])
