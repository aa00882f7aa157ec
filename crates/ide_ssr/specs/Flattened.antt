-- The flattened list of nested matches: those in the placeholders of a match come before it, and no match has others in it.
use Rattle.std.specs.Prelude.{ℕ, ◌≡◌, ◌<◌, ◌==◌, List, [], ◌∷◌, ◌++◌, Some, length, map, slice_get, count_by, All}
use Rattle.std.specs.List.{flat_map}
use Rattle.ssr_base_trees.specs.declared.ids.FileRange.{FileRange}
use Rattle.ssr_base_trees.specs.declared.semantics.SelfKind.{SelfKind}
use Rattle.ide_ssr_bindings.specs.Found.{FoundMatch}
use Rattle.ide_ssr_nesting.specs.Holding.{Kept}
use Rattle.ide_ssr_nesting.specs.Lists.{Listing}
use Rattle.ide_ssr.specs.declared.matches.Match.{Match}
use Rattle.ide_ssr.specs.declared.matches.PlaceholderMatch.{PlaceholderMatch}
use Rattle.ide_ssr.specs.Finder.{Finder}
use Rattle.ide_ssr.specs.Matches.{text_of, range_of, node_of, rule_of, comments_of, placeholders_of, name_of, place_of, deref_count_of, self_kind_of, inner_of}
use Rattle.ide_ssr.specs.Parts.{HasParts}
use Rattle.ide_ssr.specs.Searching.{IsOutcome}

-- the matches in the placeholders of a match, one placeholder after another
abbrev pub inside : Match → List Match
inside m = flat_map inner_of (placeholders_of m)

-- what a placeholder tells of itself
pub record Told : Type 0 where
  pub name : List ℕ
  pub place : FileRange
  pub deref_count : ℕ
  pub self_kind : SelfKind

abbrev pub told_of : PlaceholderMatch → Told
told_of p = record { name = name_of p; place = place_of p; deref_count = deref_count_of p; self_kind = self_kind_of p }

abbrev pub IsEmpty : PlaceholderMatch → Type 0
IsEmpty p = inner_of p ≡ []

-- no match stands in a placeholder of this one
abbrev pub HasNoneInside : Match → Type 0
HasNoneInside m = All IsEmpty (placeholders_of m)

-- a match is another one, without the matches in its placeholders
pub record IsAlone (m alone : Match) : Type 0 where
  pub text : text_of alone ≡ text_of m
  pub range : range_of alone ≡ range_of m
  pub node : node_of alone ≡ node_of m
  pub rule : rule_of alone ≡ rule_of m
  pub comments : comments_of alone ≡ comments_of m
  pub placeholders : map told_of (placeholders_of alone) ≡ map told_of (placeholders_of m)
  pub none_inside : HasNoneInside alone

-- the flattened list of matches: of the first one the flattened list of what stands in it, then itself alone, and then that of
-- the others
pub data Flattens : List Match → List Match → Type 0 where
  nothing : Flattens [] []
  next : (m alone : Match) (ms inner rest : List Match)
      → Flattens (inside m) inner → IsAlone m alone → Flattens ms rest → Flattens (m ∷ ms) (inner ++ alone ∷ rest)

-- matches show the kept ones of these places, one by one, and none has others in it
pub data ShowAlone (kept : Kept) : List ℕ → List Match → Type 0 where
  none : ShowAlone kept [] []
  one : (n : ℕ) (ns : List ℕ) (m : FoundMatch) (v : Match) (vs : List Match) → slice_get kept.matches n ≡ Some m → HasParts kept.workspace m v
      → HasNoneInside v → ShowAlone kept ns vs → ShowAlone kept (n ∷ ns) (v ∷ vs)

-- matches show each kept one of what a finder's search comes to, once, and none has others in it
pub record ShowEachOnce (finder : Finder) (flat : List Match) : Type 0 where
  pub kept : Kept
  pub lists : Listing
  pub outcome : IsOutcome finder kept lists
  pub places : List ℕ
  pub once : (n : ℕ) → n < length kept.matches → count_by (λ place. place == n) places ≡ 1
  pub shown : ShowAlone kept places flat
