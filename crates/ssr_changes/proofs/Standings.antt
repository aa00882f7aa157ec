-- Changes that are made, and the others.
use Rattle.std.proofs.Common.{◌≡◌, ℕ, zero, suc, ◌+◌, ◌<◌, ◌≤◌, cond, Bool, true, false, List, [], ◌∷◌, ◌++◌, length, get_or, take, All, ◌∙◌, ap, subst, append-nil, arith, String, string_bytes, map, refl, sym, Option, Some, None}
use Rattle.std.specs.Prelude.{filter, if◌then◌else◌}
use Rattle.std.specs.Global.{Global}
use Rattle.std.specs.List.{filter_map}
use Rattle.std.specs.Option.{is_none, option_map}
use Rattle.std.proofs.lemmas.List.{length-map, map-append}
use Rattle.std.proofs.lemmas.List.Elements.{All-nil, filter_more}
use Rattle.ssr_syntax_kinds.specs.declared.range.TextRange.{TextRange}
use Rattle.ssr_base_trees.specs.Applied.{change_of, changes_of}
use Rattle.ssr_base_trees.specs.Changes.{Change, ChangesInOrder, FitsText}
use Rattle.ssr_base_trees.proofs.Changes.{change_at}
use Rattle.ssr_set_aside.specs.Sparing.{bounds, bounds_of}
use Rattle.ssr_standing.specs.Fitted.{change_with, if_fitted}
use Rattle.ssr_standing.specs.Near.{settled}
use Rattle.ssr_standing.specs.declared.fitted.Judge.{Judge}
use Rattle.ssr_standing.specs.declared.fitted.Judge.TheVariants as judges
use Rattle.ssr_standing.proofs.Shared.{fit_told, fitted_in_place, order_told, settled_in_place, text_behind, told_more, untold_more}
use Rattle.ssr_changes.specs.Private.Standing.{tell}
use Rattle.ssr_changes.specs.Standing.{falling, standing, untold}
use Rattle.ssr_changes.specs.declared.standing.Trial.{Trial}
use Rattle.ssr_changes.specs.declared.standing.Trial.TheVariants as trials

-- ** Order.

-- a change begins before its end
pub in_order_at : (cs : List Change) (at i : ℕ) (d : Change) → ChangesInOrder at cs → i < length cs → get_or cs i d ≡ d → d.start ≤ d.end
in_order_at [] at i d order less its = absurd (omega arith)
in_order_at (c ∷ cs) at zero d order less its = subst (λ (c : Change). c.start ≤ c.end) its order.1
in_order_at (c ∷ cs) at (suc i) d order less its = in_order_at cs c.end i d order.2 (omega arith) its

-- what is tried stays in order
pub order_tried : (trial : Trial) (by : Judge → Change → Bool) (at : ℕ) (cs : List Change) → ChangesInOrder at cs
    → ChangesInOrder at (filter_map (tell trial by) cs)
order_tried trials.Settled by at cs order = order_told (settled by) (settled_in_place by) at cs order
order_tried trials.Alone by at cs order = order_told (if_fitted (by judges.File)) (fitted_in_place (by judges.File)) at cs order

-- ** One change more.

module _ (p : Change → Bool) (cs : List Change) (i : ℕ) (d : Change) (less : i < length cs) (its : get_or cs i d ≡ d) where
  more : (b : Bool) → p d ≡ b → filter p (take (i + 1) cs) ≡ filter p (take i cs) ++ cond b (d ∷ []) []
  more b is =
      filter_more p cs i d less
      ∙ ap (λ (x : Change). filter p (take i cs) ++ cond (p x) (x ∷ []) []) its
      ∙ ap (λ b. filter p (take i cs) ++ cond b (d ∷ []) []) is

  pub kept : p d ≡ true → filter p (take (i + 1) cs) ≡ filter p (take i cs) ++ d ∷ []
  kept is = more true is

  pub left_out : p d ≡ false → filter p (take (i + 1) cs) ≡ filter p (take i cs)
  left_out is = more false is ∙ append-nil (filter p (take i cs))

-- one change more of which something is told, or nothing
module _ (tell : Change → Option Change) (pairs : List (TextRange × String Global)) (i : ℕ) (item : TextRange × String Global)
    (h : i < length pairs) (e : item ≡ get_or pairs i item) (told : Option (String Global))
    (is : option_map (change_with item.0) (option_map string_bytes told) ≡ tell (change_of item)) where
  abbrev cs : List Change
  cs = changes_of pairs

  abbrev d : Change
  d = change_of item

  its : get_or cs i d ≡ d
  its = change_at pairs i item d h e

  less : i < length cs
  less = omega (arith, length-map pairs change_of)

  tells : (o : Option (String Global)) → told ≡ o → option_map (change_with item.0) (option_map string_bytes o) ≡ tell d
  tells o same = subst (λ (o : Option (String Global)). option_map (change_with item.0) (option_map string_bytes o) ≡ tell d) same is

  pub made_more : (text : String Global) → told ≡ Some text → (made new : List (TextRange × String Global)) → new ≡ made ++ (item.0, text) ∷ []
      → changes_of made ≡ filter_map tell (take i cs) → changes_of new ≡ filter_map tell (take (i + 1) cs)
  made_more text same made new more so =
      text_behind made new item.0 text more
      ∙ ap (λ (xs : List Change). xs ++ change_of (item.0, text) ∷ []) so
      ∙ told_more tell cs i d less its (change_of (item.0, text)) (tells (Some text) same)

  pub made_stays : told ≡ None → (made : List (TextRange × String Global))
      → changes_of made ≡ filter_map tell (take i cs) → changes_of made ≡ filter_map tell (take (i + 1) cs)
  made_stays same made so = so ∙ untold_more tell cs i d less its (tells None same)

  pub unread_stays : (text : String Global) → told ≡ Some text → (unread : List TextRange)
      → map bounds unread ≡ map bounds_of (untold tell (take i cs)) → map bounds unread ≡ map bounds_of (untold tell (take (i + 1) cs))
  unread_stays text same unread so =
      so ∙ sym (ap (map bounds_of) (left_out (λ c. is_none (tell c)) cs i d less its (sym (ap is_none (tells (Some text) same)))))

  pub unread_more : told ≡ None → (unread new : List TextRange) → new ≡ unread ++ item.0 ∷ []
      → map bounds unread ≡ map bounds_of (untold tell (take i cs)) → map bounds new ≡ map bounds_of (untold tell (take (i + 1) cs))
  unread_more same unread new more so =
      ap (map bounds) more ∙ map-append bounds unread (item.0 ∷ [])
      ∙ ap (λ (xs : List (ℕ × ℕ)). xs ++ bounds item.0 ∷ []) so
      ∙ sym
      (ap (map bounds_of) (kept (λ c. is_none (tell c)) cs i d less its (sym (ap is_none (tells None same))))
      ∙ map-append bounds_of (untold tell (take i cs)) (d ∷ []))

-- ** What is made.

-- of four lists the one that three tests choose
abbrev first_of : Bool → Bool → Bool → List Change → List Change → List Change → List Change → List Change
first_of b d e all near far none = if b then all else if d then near else if e then far else none

module _ (stand : List Change → Bool) (by : Judge → Change → Bool) (cs : List Change) where
  abbrev near : List Change
  near = filter_map (settled by) cs

  abbrev far : List Change
  far = filter_map (if_fitted (by judges.File)) cs

  made_by : (b d e : Bool) → stand cs ≡ b → stand near ≡ d → stand far ≡ e → standing stand by cs ≡ first_of b d e cs near far []
  made_by b d e all some few =
      ap (λ b. first_of b (stand near) (stand far) cs near far []) all ∙ ap (λ d. first_of b d (stand far) cs near far []) some
      ∙ ap (λ e. first_of b d e cs near far []) few

  fall_by : (b d e : Bool) → stand cs ≡ b → stand near ≡ d → stand far ≡ e
      → falling stand by cs ≡ first_of b d e [] (untold (settled by) cs) (untold (if_fitted (by judges.File)) cs) cs
  fall_by b d e all some few =
      ap (λ b. first_of b (stand near) (stand far) [] (untold (settled by) cs) (untold (if_fitted (by judges.File)) cs) cs) all
      ∙ ap (λ d. first_of b d (stand far) [] (untold (settled by) cs) (untold (if_fitted (by judges.File)) cs) cs) some
      ∙ ap (λ e. first_of b d e [] (untold (settled by) cs) (untold (if_fitted (by judges.File)) cs) cs) few

  pub all_made : stand cs ≡ true → standing stand by cs ≡ cs
  all_made all = made_by true (stand near) (stand far) all refl refl

  pub none_fall : stand cs ≡ true → falling stand by cs ≡ []
  none_fall all = fall_by true (stand near) (stand far) all refl refl

  pub near_made : stand cs ≡ false → stand near ≡ true → standing stand by cs ≡ near
  near_made all some = made_by false true (stand far) all some refl

  pub others_fall : stand cs ≡ false → stand near ≡ true → falling stand by cs ≡ untold (settled by) cs
  others_fall all some = fall_by false true (stand far) all some refl

  pub alone_made : stand cs ≡ false → stand near ≡ false → stand far ≡ true → standing stand by cs ≡ far
  alone_made all some few = made_by false false true all some few

  pub unfit_fall : stand cs ≡ false → stand near ≡ false → stand far ≡ true → falling stand by cs ≡ untold (if_fitted (by judges.File)) cs
  unfit_fall all some few = fall_by false false true all some few

  pub none_made : stand cs ≡ false → stand near ≡ false → stand far ≡ false → standing stand by cs ≡ []
  none_made all some few = made_by false false false all some few

  pub all_fall : stand cs ≡ false → stand near ≡ false → stand far ≡ false → falling stand by cs ≡ cs
  all_fall all some few = fall_by false false false all some few

  -- where all changes fit a text, those that are made do
  pub fits_standing : (text : List ℕ) → All (FitsText text) cs → All (FitsText text) (standing stand by cs)
  fits_standing text all = one_of (stand cs) (stand near) (stand far)
    where
      one_of : (b d e : Bool) → All (FitsText text) (first_of b d e cs near far [])
      one_of true d e = all
      one_of false true e = fit_told (settled by) (settled_in_place by) text cs all
      one_of false false true = fit_told (if_fitted (by judges.File)) (fitted_in_place (by judges.File)) text cs all
      one_of false false false = All-nil (FitsText text)
