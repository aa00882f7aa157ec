-- Matches and debug lists of a search for texts.
use Rattle.std.proofs.Common.{◌≡◌, ℕ, zero, suc, ◌+◌, ◌<◌, Bool, true, false, ◌||◌, List, [], ◌∷◌, ◌++◌, length, map, take, get_or, Result, Ok, refl, sym, ◌∙◌, ap, subst, arith}
use Rattle.std.proofs.lemmas.List.{map-append, take_more}
use Rattle.std.proofs.lemmas.List.Folds.{list_any-append}
use Rattle.std.specs.List.{list_any}
use Rattle.ssr_base_trees.specs.declared.ids.FilePosition.{FilePosition}
use Rattle.ssr_base_trees.specs.declared.ids.FileRange.{FileRange}
use Rattle.ssr_base_trees.specs.Meanings.{Meanings}
use Rattle.ssr_base_trees.specs.Workspace.{Workspace}
use Rattle.ide_ssr_debugging.specs.Debugging.{AreEntries, Entry}
use Rattle.ide_ssr_search.specs.Context.{Context}
use Rattle.ide_ssr_search.specs.declared.context_error.ContextError.{ContextError}
use Rattle.ide_ssr.specs.declared.matches.Match.{Match}
use Rattle.ide_ssr.specs.Finder.{Finder, FinderWith, finder_of}
use Rattle.ide_ssr.specs.Making.{MakesFinder}
use Rattle.ssr_searching.specs.Searching.{MakesFor, Search}
use Rattle.ssr_changes.specs.declared.finding.Form.{Form}
use Rattle.ssr_changes.specs.declared.finding.Form.TheVariants as forms
use Rattle.ssr_changes.specs.Debugging.{AreTold, AreToldUpTo, Told, more, told_of}
use Rattle.ssr_changes.specs.Files.{File}
use Rattle.ssr_changes.specs.Finding.{IsFinderFor, owners_of, reading_of}
use Rattle.ssr_changes.specs.Matching.{AreFound, Found, found_of}
use Rattle.ssr_changes.specs.Private.Finding.{AddsTexts}
use Rattle.ssr_changes.proofs.Texts.{finder_is}

-- ** Tests of the elements of a list up to a place.

or-true : (b : Bool) → (b || true) ≡ true
or-true true = refl
or-true false = refl

module _ {X Y : Type 0} (p : Y → Bool) (f : X → Y) where
  passes : (xs : List X) (i : ℕ) (x : X) → i < length xs → p (f (get_or xs i x)) ≡ true → list_any p (map f xs) ≡ true
  passes [] i x less is = absurd (omega arith)
  passes (y ∷ ys) zero x less is = ap (λ b. b || list_any p (map f ys)) is
  passes (y ∷ ys) (suc i) x less is = ap (λ b. p (f y) || b) (passes ys i x (omega arith) is) ∙ or-true (p (f y))

  module _ (xs : List X) (i : ℕ) (x : X) (less : i < length xs) (its : x ≡ get_or xs i x) where
    pub one_passes : p (f x) ≡ true → list_any p (map f xs) ≡ true
    one_passes is = passes xs i x less (ap (λ (y : X). p (f y)) (sym its) ∙ is)

    pub one_fails : list_any p (map f (take i xs)) ≡ false → p (f x) ≡ false → list_any p (map f (take (i + 1) xs)) ≡ false
    one_fails before is =
        ap (λ (l : List X). list_any p (map f l)) (take_more xs i x less ∙ ap (λ (y : X). take i xs ++ y ∷ []) (sym its))
        ∙ ap (list_any p) (map-append f (take i xs) (x ∷ []))
        ∙ list_any-append p (map f (take i xs)) (f x ∷ [])
        ∙ ap (λ b. b || (p (f x) || false)) before
        ∙ ap (λ b. b || false) is

-- what is told of one file more
pub told_more : (finder : Finder) (owners snippet : List ℕ) (n : ℕ) (w : Workspace) (so_far grown : List Told) (entries told : List Entry) → finder.workspace ≡ w
    → AreToldUpTo finder owners snippet n so_far → AreEntries finder.workspace finder.meanings finder.rules (record { 0 = n }) snippet entries → told ≡ entries
    → grown ≡ so_far ++ map (told_of owners w) told → AreToldUpTo finder owners snippet (n + 1) grown
told_more finder owners snippet n w so_far grown entries told same up_to are is more_told =
    let all : grown ≡ so_far ++ map (told_of owners finder.workspace) entries =
    more_told ∙ ap (λ (w : Workspace). so_far ++ map (told_of owners w) told) (sym same) ∙ ap (λ (es : List Entry). so_far ++ map (told_of owners finder.workspace) es) is in
    subst (λ (told : List Told). AreToldUpTo finder owners snippet (n + 1) told) (sym all) (more n so_far entries up_to are)

module _ {S : Type 0} (told_by : S → Meanings) (form : Form) (semantics : S) (position : FilePosition) (ranges : List FileRange) where
  abbrev pub search_in : Workspace → Search
  search_in w = record { workspace = w; meanings = told_by semantics; position = position; ranges = ranges }

  pub finder_in : (w v : Workspace) (texts : List (List ℕ)) (made finder : FinderWith S) (owners : List ℕ) → w ≡ v
      → MakesFinder w semantics (MakesFor (search_in w)) (Ok made) → AddsTexts told_by form texts made finder owners
      → IsFinderFor form (search_in v) texts (finder_of told_by finder)
  finder_in w v texts made finder owners same is adds =
      subst (λ (w : Workspace). IsFinderFor form (search_in w) texts (finder_of told_by finder)) same
      (finder_is told_by form w semantics position ranges texts made finder owners is adds)

  pub are_found : (IsListed : Finder → List Match → Type 0) (w v : Workspace) (texts : List (List ℕ)) (files : List File) (made finder : FinderWith S) (owners : List ℕ)
      (matches : List Match) (places : List Found) → w ≡ v → MakesFinder w semantics (MakesFor (search_in w)) (Ok made) → AddsTexts told_by form texts made finder owners
      → IsListed (finder_of told_by finder) matches → places ≡ map (found_of owners files) matches → AreFound IsListed form (search_in v) texts files places
  are_found IsListed w v texts files made finder owners matches places same is adds listed are = record {
    finder = finder_of told_by finder;
    is_finder = finder_in w v texts made finder owners same is adds;
    matches = matches;
    listed = listed;
    are = are ∙ ap (λ (os : List ℕ). map (found_of os files) matches) adds.owned;
  }

  -- a finder to which texts are added searches the same workspace
  pub workspace_is : (w : Workspace) (IsMade : Result Context ContextError → Type 0) (texts : List (List ℕ)) (made finder : FinderWith S) (owners : List ℕ)
      → MakesFinder w semantics IsMade (Ok made) → AddsTexts told_by form texts made finder owners → finder.workspace ≡ w
  workspace_is w IsMade texts made finder owners is adds = ap (λ (f : FinderWith S). f.workspace) adds.added ∙ ap (λ (f : FinderWith S). f.workspace) is.2

-- a debug list is that of a search for rules
pub are_told : {S : Type 0} (told_by : S → Meanings) (semantics : S) (position : FilePosition) (ranges : List FileRange) (w v : Workspace) (rules : List (List ℕ))
    (made finder : FinderWith S) (owners slice snippet : List ℕ) (told : List Told) → w ≡ v → ranges ≡ []
    → MakesFinder w semantics (MakesFor (search_in told_by forms.Rules semantics position ranges w)) (Ok made) → AddsTexts told_by forms.Rules rules made finder owners
    → slice ≡ owners → AreToldUpTo (finder_of told_by finder) slice snippet (length w.files) told
    → AreTold (search_in told_by forms.Rules semantics position [] v) rules snippet told
are_told told_by semantics position ranges w v rules made finder owners slice snippet told same none is adds shown up_to =
    let its : finder.workspace ≡ w = workspace_is told_by forms.Rules semantics position ranges w (MakesFor (search_in told_by forms.Rules semantics position ranges w)) rules made finder owners is adds in
    let f : Finder = finder_of told_by finder in
    let one : AreToldUpTo f (owners_of (reading_of forms.Rules) rules) snippet (length w.files) told =
    subst (λ (os : List ℕ). AreToldUpTo f os snippet (length w.files) told) (shown ∙ adds.owned) up_to in
    record {
      finder = f;
      is_finder =
          subst (λ (ranges : List FileRange). IsFinderFor forms.Rules (search_in told_by forms.Rules semantics position ranges v) rules f) none
          (finder_in told_by forms.Rules semantics position ranges w v rules made finder owners same is adds);
      are = subst (λ (w : Workspace). AreToldUpTo f (owners_of (reading_of forms.Rules) rules) snippet (length w.files) told) (sym its) one;
    }
