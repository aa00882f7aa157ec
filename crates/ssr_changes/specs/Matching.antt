-- Matches as plain values.
use Rattle.std.specs.Prelude.{ℕ, ◌≡◌, Bool, false, List, [], map, slice_get, slice_index, string_bytes}
use Rattle.std.specs.Option.{option_map_or}
use Rattle.ssr_base_trees.specs.declared.ids.FileRange.{FileRange}
use Rattle.ide_ssr.specs.declared.matches.Match.{Match}
use Rattle.ide_ssr.specs.declared.matches.PlaceholderMatch.{PlaceholderMatch}
use Rattle.ide_ssr.specs.Finder.{Finder}
use Rattle.ide_ssr.specs.Matches.{name_of, place_of, placeholders_of, range_of, rule_of}
use Rattle.ssr_set_aside.specs.Sparing.{touches_aside}
use Rattle.ssr_searching.specs.Searching.{Search}
use Rattle.ssr_changes.specs.declared.finding.Form.{Form}
use Rattle.ssr_changes.specs.declared.matching.FoundPlace.{FoundPlace}
use Rattle.ssr_changes.specs.declared.matching.FoundPlaceholder.{FoundPlaceholder}
use Rattle.ssr_changes.specs.Files.{File}
use Rattle.ssr_changes.specs.Finding.{IsFinderFor, owners_of, reading_of}

-- what a placeholder holds
pub record Held : Type 0 where
  pub name : List ℕ
  pub range : FileRange

-- a match: the place of the text that it is found for, where it stands, what its placeholders hold, and whether it touches the reach of a
-- part set aside
pub record Found : Type 0 where
  pub rule : ℕ
  pub range : FileRange
  pub placeholders : List Held
  pub holds_aside : Bool

-- a range touches the reach of a part set aside in its file
abbrev pub is_aside : List File → FileRange → Bool
is_aside files range =
    option_map_or (λ file. touches_aside file.reaches (record { start = range.range.start; end = range.range.end; text = [] })) (slice_get files range.file_id.0) false

-- what is told of a match, where the kinds of the finder come from texts of these numbers
abbrev pub held_of : PlaceholderMatch → Held
held_of p = record { name = name_of p; range = place_of p }

abbrev pub found_of : List ℕ → List File → Match → Found
found_of owners files m = record {
  rule = slice_index owners (rule_of m);
  range = range_of m;
  placeholders = map held_of (placeholders_of m);
  holds_aside = is_aside files (range_of m);
}

-- what a place tells
abbrev pub held_by : FoundPlaceholder → Held
held_by p = record { name = string_bytes p.name; range = p.range }

abbrev pub found_by : FoundPlace → Found
found_by p = record { rule = p.rule; range = p.range; placeholders = map held_by p.placeholders.items; holds_aside = p.holds_aside }

-- these are told of the matches that a search for the texts comes to, listed in this way
pub record AreFound (IsListed : Finder → List Match → Type 0) (form : Form) (s : Search) (texts : List (List ℕ)) (files : List File) (places : List Found) : Type 0 where
  pub finder : Finder
  pub is_finder : IsFinderFor form s texts finder
  pub matches : List Match
  pub listed : IsListed finder matches
  pub are : places ≡ map (found_of (owners_of (reading_of form) texts) files) matches
