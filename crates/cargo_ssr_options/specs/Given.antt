-- What words say, and what they can't say together.
use Rattle.std.specs.Prelude.{◌&&◌, ◌||◌, Bool, not, nat_lt, List, [], ◌∷◌, count_by, Option, None, Some, is_some, Result, Ok, Err, if◌then◌else◌, vec_len, String}
use Rattle.std.specs.Global.{Global}
use Rattle.std.specs.declared.vec.Vec.{Vec}
use Rattle.cargo_ssr_options.specs.declared.given.Given.{Given}
use Rattle.cargo_ssr_options.specs.declared.given.Mismatch.{Mismatch}
use Rattle.cargo_ssr_options.specs.declared.given.Mismatch.TheVariants.{TwoModes, RulesAndPatterns, NoRules, TwoChosen, DebugAsJson}
use Rattle.cargo_ssr_options.specs.declared.options.Options.{Options}
use Rattle.cargo_ssr_options.specs.declared.options.Mode.{Mode}
use Rattle.cargo_ssr_options.specs.declared.options.Mode.TheVariants.{Diff, Write, Check, Search, Debug}
use Rattle.cargo_ssr_options.specs.declared.options.Chosen.{Chosen}
use Rattle.cargo_ssr_options.specs.declared.options.Chosen.TheVariants.{Package, Paths, Facts}

abbrev pub Texts : Type 0
Texts = Vec (String Global) Global

abbrev pub is_filled : Texts → Bool
is_filled texts = nat_lt 0 (vec_len texts)

-- more than one of these holds
abbrev pub has_two : List Bool → Bool
has_two tests = nat_lt 1 (count_by (λ test. test) tests)

-- ** What goes together

abbrev pub has_rules : Given → Bool
has_rules given = is_filled given.rules || is_some given.rules_file

abbrev pub has_two_modes : Given → Bool
has_two_modes given = has_two (given.write ∷ given.check ∷ is_filled given.patterns ∷ is_some given.snippet ∷ [])

abbrev pub has_two_chosen : Given → Bool
has_two_chosen given = has_two (is_filled given.paths ∷ (is_some given.package || is_some given.manifest) ∷ is_some given.facts ∷ [])

-- what doesn't go together: the first of these that holds
abbrev pub mismatch_of : Given → Option Mismatch
mismatch_of given =
    if has_two_modes given then Some TwoModes
    else if is_filled given.patterns && has_rules given then Some RulesAndPatterns
    else if not (is_filled given.patterns) && not (has_rules given) then Some NoRules
    else if has_two_chosen given then Some TwoChosen
    else if given.json && is_some given.snippet then Some DebugAsJson
    else None

-- ** What it says

-- with a snippet the debug list, with patterns a search; else new texts are written, or it is told whether there are any
abbrev pub mode_of : Bool → Bool → Texts → Option (String Global) → Mode
mode_of write check patterns (Some snippet) = Debug snippet
mode_of write check patterns None = if is_filled patterns then Search patterns else if write then Write else if check then Check else Diff

abbrev pub chosen_of : Texts → Option (String Global) → Option (String Global) → Option (String Global) → Chosen
chosen_of paths (Some facts) name manifest = Facts facts
chosen_of paths None name manifest = if is_filled paths then Paths paths else Package name manifest

abbrev pub options_of : Given → Options
options_of given = record {
  mode = mode_of given.write given.check given.patterns given.snippet;
  rules = given.rules;
  rules_file = given.rules_file;
  files = chosen_of given.paths given.facts given.package given.manifest;
  place = given.place;
  macros = not given.no_macros;
  json = given.json;
  undecided = given.undecided;
  color = given.color;
  quiet = given.quiet;
}

abbrev pub refused_or : Option Mismatch → Options → Result Options Mismatch
refused_or (Some mismatch) options = Err mismatch
refused_or None options = Ok options

abbrev pub options_or_mismatch : Given → Result Options Mismatch
options_or_mismatch given = refused_or (mismatch_of given) (options_of given)
