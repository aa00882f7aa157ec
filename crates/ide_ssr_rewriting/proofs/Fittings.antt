-- Changes in a part of a text, in parentheses or not.
use Rattle.std.proofs.Common.{◌≡◌, ℕ, ◌+◌, ◌-◌, ◌<◌, ◌≤◌, ◌==◌, ◌&&◌, Bool, true, false, List, [], ◌∷◌, ◌++◌, All, get_or, length, map, take, Option, Some, None, option_map, refl, sym, ◌∙◌, ap, subst, arith, String}
use Rattle.std.specs.Prelude.{IsSomeAnd, if◌then◌else◌, slice_get, slice_range}
use Rattle.std.specs.Global.{Global}
use Rattle.std.specs.List.{filter_map}
use Rattle.std.specs.Option.{option_map_or, unwrap_or}
use Rattle.ssr_syntax_kinds.specs.declared.reach.Reach.{Reach}
use Rattle.ssr_syntax_tree.specs.Syntax.{Syntax, source_of}
use Rattle.std.proofs.lemmas.Option.{same_Some}
use Rattle.std.proofs.lemmas.List.{length-map, map-append, take_more}
use Rattle.std.proofs.lemmas.List.Elements.{All-map}
use Rattle.ssr_syntax_kinds.specs.declared.range.TextRange.{TextRange}
use Rattle.ssr_base_trees.specs.declared.ids.FileRange.{FileRange}
use Rattle.ssr_base_trees.specs.Applied.{change_of, changes_of}
use Rattle.ssr_base_trees.specs.Changes.{Change, ChangesInOrder, FitsText, replaced}
use Rattle.ssr_base_trees.proofs.Changes.{change_at}
use Rattle.ssr_base_trees.specs.Workspace.{Workspace, file_span_of}
use Rattle.ssr_standing.specs.Expansions.{stands_in}
use Rattle.ssr_standing.specs.Fitted.{fitted, if_fitted, in_parentheses}
use Rattle.ssr_standing.specs.Near.{settled, stands_by}
use Rattle.ssr_standing.specs.Parts.{FitsPart, agrees_after, expression_of, stands_between}
use Rattle.ssr_standing.specs.declared.fitted.Judge.{Judge}
use Rattle.ssr_standing.specs.declared.fitted.Judge.TheVariants as judges
use Rattle.ssr_standing.proofs.Shared.{IsInPlace, fits_told, fitted_in_place, order_all, settled_in_place}
use Rattle.ide_ssr_rewriting.specs.Fitting.{all_fitted, as_told, fitted_alone, fitted_between, fitted_in, fitted_near, is_alone}
use Rattle.ide_ssr_rewriting.specs.Clashes.{Rewrite}
use Rattle.ide_ssr_rewriting.specs.Replacements.{file_text, held_text}
use Rattle.ide_ssr_rewriting.specs.Private.Files.{FitsIn}

-- ** Parentheses leave the ranges of changes.

module _ (tell : Change → Option Change) (in_place : (c : Change) → IsInPlace c (tell c)) where
  all_fit_told : (text : List ℕ) (cs : List Change) → All (FitsText text) cs → All (FitsText text) (map (as_told tell) cs)
  all_fit_told text cs all = All-map (FitsText text) (as_told tell) cs (λ k d less. fits_told tell in_place text (get_or cs k d) (all k d less))

  fits_in_told : (w : Workspace) (file : ℕ) (c : Change) → FitsIn w file c → FitsIn w file (as_told tell c)
  fits_in_told w file c fit = by (slice_get w.files file) fit
    where
      by : (o : Option Syntax) → IsSomeAnd o (λ tree. FitsText (source_of tree) c) → IsSomeAnd o (λ tree. FitsText (source_of tree) (as_told tell c))
      by None fit = fit
      by (Some tree) fit = fits_told tell in_place (source_of tree) c fit

  all_fit_in_told : (w : Workspace) (file : ℕ) (cs : List Change) → All (FitsIn w file) cs → All (FitsIn w file) (map (as_told tell) cs)
  all_fit_in_told w file cs all = All-map (FitsIn w file) (as_told tell) cs (λ k d less. fits_in_told w file (get_or cs k d) (all k d less))

pub fits_between : (reach : Reach) (front text : List ℕ) (from to : ℕ) (cs : List Change) → All (FitsText text) cs → All (FitsText text) (fitted_between reach front text from to cs)
unfolding fitted_between
fits_between reach front text from to cs all = by (is_alone front from to cs)
  where
    stands : List Change → Bool
    stands cs = stands_between reach front text from to cs

    or_each : (b : Bool) → All (FitsText text) (if b then cs else map (fitted_alone (λ c. stands (c ∷ []))) cs)
    or_each true = all
    or_each false = all_fit_told (if_fitted (λ c. stands (c ∷ []))) (fitted_in_place (λ c. stands (c ∷ []))) text cs all

    by : (b : Bool) → All (FitsText text) (if b then cs else all_fitted stands cs)
    by true = all
    by false = or_each (stands cs)

-- ** Changes of a file.

-- which of the three is made
module _ (P : List Change → Type 0) (w : Workspace) (file : ℕ) (cs : List Change) where
  one_of : P cs → P (map (as_told (settled (stands_by w file))) cs) → P (map (fitted_alone (stands_by w file judges.File)) cs) → P (fitted_in w file cs)
  unfolding fitted_in
  one_of all near alone = by (stands_in w file cs) (stands_in w file (filter_map (settled (stands_by w file)) cs))
    where
      by : (b d : Bool)
          → P (if b then cs else if d then map (as_told (settled (stands_by w file))) cs else map (fitted_alone (stands_by w file judges.File)) cs)
      by true d = all
      by false true = near
      by false false = alone

-- the changes that are made in a file are in order
pub order_in : (w : Workspace) (file at : ℕ) (cs : List Change) → ChangesInOrder at cs → ChangesInOrder at (fitted_in w file cs)
order_in w file at cs order =
    let by = stands_by w file in
    one_of (ChangesInOrder at) w file cs order (order_all (settled by) (settled_in_place by) at cs order)
    (order_all (if_fitted (by judges.File)) (fitted_in_place (by judges.File)) at cs order)

-- and fit it
pub fits_in_file : (w : Workspace) (file : ℕ) (cs : List Change) → All (FitsIn w file) cs → All (FitsIn w file) (fitted_in w file cs)
fits_in_file w file cs all =
    let by = stands_by w file in
    one_of (All (FitsIn w file)) w file cs all (all_fit_in_told (settled by) (settled_in_place by) w file cs all)
    (all_fit_in_told (if_fitted (by judges.File)) (fitted_in_place (by judges.File)) w file cs all)

-- they stay as they are, or are made as they are settled, or each as it stands alone
module _ (stand : List Change → Bool) (by : Judge → Change → Bool) (cs : List Change) where
  abbrev standing : List Change
  standing = filter_map (settled by) cs

  abbrev near : List Change
  near = map (as_told (settled by)) cs

  abbrev alone : List Change
  alone = map (fitted_alone (by judges.File)) cs

  pub all_stay : stand cs ≡ true → cs ≡ fitted_near stand by cs
  all_stay is = sym (ap (λ b. if b then cs else if stand standing then near else alone) is)

  pub as_settled : stand cs ≡ false → stand standing ≡ true → near ≡ fitted_near stand by cs
  as_settled all is =
      sym (ap (λ b. if b then cs else if stand standing then near else alone) all ∙ ap (λ b. if b then near else alone) is)

  pub each_alone : stand cs ≡ false → stand standing ≡ false → alone ≡ fitted_near stand by cs
  each_alone all is =
      sym (ap (λ b. if b then cs else if stand standing then near else alone) all ∙ ap (λ b. if b then near else alone) is)

-- ** Changes of a range.

-- one change fits where all do
pub fits_here : (text : List ℕ) (part : TextRange) (pairs : List (TextRange × String Global)) (i : ℕ) (pair : TextRange × String Global)
    → i < length pairs → pair ≡ get_or pairs i pair → All (FitsPart text part) (changes_of pairs) → FitsPart text part (change_of pair)
fits_here text part pairs i pair h e all =
    subst (FitsPart text part) (change_at pairs i pair (change_of pair) h e) (all i (change_of pair) (omega (arith, length-map pairs change_of)))

-- one change more that is fitted
pub one_fitted : (fit : Change → Change) (pairs : List (TextRange × String Global)) (i : ℕ) (pair : TextRange × String Global) (text : String Global)
    → (old new : List (TextRange × String Global)) → i < length pairs → pair ≡ get_or pairs i pair → new ≡ old ++ (pair.0, text) ∷ []
    → change_of (pair.0, text) ≡ fit (change_of pair)
    → changes_of old ≡ map fit (take i (changes_of pairs)) → changes_of new ≡ map fit (take (i + 1) (changes_of pairs))
one_fitted fit pairs i pair text old new h e more is so =
    ap changes_of more ∙ map-append change_of old ((pair.0, text) ∷ [])
    ∙ ap (λ (cs : List Change). cs ++ change_of (pair.0, text) ∷ []) so
    ∙ ap (λ (c : Change). map fit (take i (changes_of pairs)) ++ c ∷ []) is
    ∙ sym (map-append fit (take i (changes_of pairs)) (change_of pair ∷ []))
    ∙ ap (λ (c : Change). map fit (take i (changes_of pairs) ++ c ∷ [])) (sym (change_at pairs i pair (change_of pair) h e))
    ∙ ap (map fit) (sym (take_more (changes_of pairs) i (change_of pair) (omega (arith, length-map pairs change_of))))

-- ** What is made.

pub none_fitted : (reach : Reach) (front text : List ℕ) (from to : ℕ) → fitted_between reach front text from to [] ≡ []
unfolding fitted_between
none_fitted reach front text from to = refl

-- what is held, without changes
pub empty_held : (w : Workspace) (front : List ℕ) (range : FileRange) (o : Option FileRange) (list : List Rewrite) → o ≡ Some range → length list ≡ 0
    → slice_range (file_text w range.file_id.0) range.range.start range.range.end ≡ held_text w front (option_map file_span_of o) list
empty_held w front range o [] is h =
    ap (replaced (file_text w range.file_id.0) range.range.start range.range.end) (sym (none_fitted w.reach front (file_text w range.file_id.0) range.range.start range.range.end))
    ∙ ap (λ (o : Option FileRange). held_text w front (option_map file_span_of o) []) (sym is)
empty_held w front range o (r ∷ rs) is h = absurd (omega arith)

pub alone_fitted : (reach : Reach) (front text : List ℕ) (from to : ℕ) (cs : List Change) → is_alone front from to cs ≡ true → fitted_between reach front text from to cs ≡ cs
unfolding fitted_between
alone_fitted reach front text from to cs whole = ap (λ b. if b then cs else all_fitted (stands_between reach front text from to) cs) whole

pub standing_fitted : (reach : Reach) (front text : List ℕ) (from to : ℕ) (cs : List Change) → is_alone front from to cs ≡ false → stands_between reach front text from to cs ≡ true
    → fitted_between reach front text from to cs ≡ cs
unfolding fitted_between
standing_fitted reach front text from to cs whole stand =
    ap (λ b. if b then cs else all_fitted (stands_between reach front text from to) cs) whole
    ∙ ap (λ b. if b then cs else map (fitted_alone (λ c. stands_between reach front text from to (c ∷ []))) cs) stand

pub each_fitted : (reach : Reach) (front text : List ℕ) (from to : ℕ) (cs : List Change) → is_alone front from to cs ≡ false → stands_between reach front text from to cs ≡ false
    → fitted_between reach front text from to cs ≡ map (fitted_alone (λ c. stands_between reach front text from to (c ∷ []))) cs
unfolding fitted_between
each_fitted reach front text from to cs whole fall =
    ap (λ b. if b then cs else all_fitted (stands_between reach front text from to) cs) whole
    ∙ ap (λ b. if b then cs else map (fitted_alone (λ c. stands_between reach front text from to (c ∷ []))) cs) fall

-- where nothing stands, all changes stay as they are
none_stand : (stands : Change → Bool) (cs : List Change) → ((c : Change) → stands c ≡ false) → map (fitted_alone stands) cs ≡ cs
none_stand stands [] none = refl
none_stand stands (c ∷ cs) none =
    ap (λ b. unwrap_or (if b then Some (fitted stands c) else None) c ∷ map (fitted_alone stands) cs) (none (fitted stands c))
    ∙ ap (λ (cs : List Change). c ∷ cs) (none_stand stands cs none)

pub unread_fitted : (reach : Reach) (front text : List ℕ) (from to : ℕ) (cs : List Change) → is_alone front from to cs ≡ false → expression_of reach front (slice_range text from to) ≡ None
    → fitted_between reach front text from to cs ≡ cs
unread_fitted reach front text from to cs whole unread =
    each_fitted reach front text from to cs whole (fall cs) ∙ none_stand (λ c. stands_between reach front text from to (c ∷ [])) cs (λ c. fall (c ∷ []))
  where
    fall : (cs : List Change) → stands_between reach front text from to cs ≡ false
    fall cs = ap (λ (old : Option Syntax). option_map_or (λ old. option_map_or (agrees_after (1 + length front) from cs old) (expression_of reach front (replaced text from to cs)) false) old false) unread

-- ** One change alone.

pub stays : (stands : Change → Bool) (c : Change) → stands c ≡ true → fitted_alone stands c ≡ c
stays stands c is =
    let same : fitted stands c ≡ c = ap (λ b. if b then c else in_parentheses c) is in
    ap (λ (d : Change). unwrap_or (if stands d then Some d else None) c) same ∙ ap (λ b. unwrap_or (if b then Some c else None) c) is

module _ (stands : Change → Bool) (c : Change) (fall : stands c ≡ false) where
  in_them : fitted stands c ≡ in_parentheses c
  in_them = ap (λ b. if b then c else in_parentheses c) fall

  pub closed : stands (in_parentheses c) ≡ true → fitted_alone stands c ≡ in_parentheses c
  closed is =
      ap (λ (d : Change). unwrap_or (if stands d then Some d else None) c) in_them
      ∙ ap (λ b. unwrap_or (if b then Some (in_parentheses c) else None) c) is

  pub stays_open : stands (in_parentheses c) ≡ false → fitted_alone stands c ≡ c
  stays_open is =
      ap (λ (d : Change). unwrap_or (if stands d then Some d else None) c) in_them
      ∙ ap (λ b. unwrap_or (if b then Some (in_parentheses c) else None) c) is

-- ** Whether nothing stands around changes.

pub many_alone : (front : List ℕ) (from to : ℕ) (cs : List Change) → 1 < length cs → is_alone front from to cs ≡ false
many_alone front from to [] h = absurd (omega arith)
many_alone front from to (c ∷ []) h = absurd (omega arith)
many_alone front from to (c ∷ d ∷ cs) h = refl

pub one_alone : (front : List ℕ) (from to : ℕ) (pairs : List (TextRange × String Global)) (pair : TextRange × String Global) → length pairs ≤ 1
    → slice_get pairs 0 ≡ Some pair → is_alone front from to (changes_of pairs) ≡ (length front == 0 && (pair.0.start == from && pair.0.end == to))
one_alone front from to [] pair h e = absurd (cc e)
one_alone front from to (p ∷ []) pair h e =
    ap (λ (q : TextRange × String Global). length front == 0 && (q.0.start == from && q.0.end == to)) (same_Some p pair e)
one_alone front from to (p ∷ q ∷ ps) pair h e = absurd (omega arith)

pub none_alone : (front : List ℕ) (from to : ℕ) (pairs : List (TextRange × String Global)) → slice_get pairs 0 ≡ None → is_alone front from to (changes_of pairs) ≡ true
none_alone front from to [] e = refl
none_alone front from to (p ∷ ps) e = absurd (cc e)
