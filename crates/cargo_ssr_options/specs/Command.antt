-- What the words of the command say, argument by argument.
use Rattle.std.specs.Prelude.{ℕ, ◌≡◌, Bool, false, List, [], ◌∷◌, map, Option, Some, None, MatchOption, option_map, bytes_eq, codes, if◌then◌else◌, string_bytes}
use Rattle.std.specs.Option.{option_map_or, IsSomeAnd}
use Rattle.clap.specs.Words.{HasMatchesOf, app_of, first_value, found_of, matched_of, raw_values}
use Rattle.clap.specs.declared.builder.command.Command.{Command}
use Rattle.clap.specs.declared.parser.matches.ArgMatches.{ArgMatches}
use Rattle.clap.specs.declared.parser.matches.Found.{Found}
use Rattle.cargo_ssr_options.specs.declared.given.Given.{Given}
use Rattle.cargo_ssr_options.specs.declared.options.Color.{Color}
use Rattle.cargo_ssr_options.specs.declared.options.Color.TheVariants.{Auto, Always, Never}
use Rattle.cargo_ssr_options.specs.declared.options.Options.{Options}
use Rattle.cargo_ssr_options.specs.declared.place.Place.{Place}
use Rattle.cargo_ssr_options.specs.Given.{Texts, mismatch_of, options_of}
use Rattle.cargo_ssr_options.specs.Place.{Spells}

-- the words without the program's name, where cargo puts the command's behind it
abbrev pub own_words : List (List ℕ) → List (List ℕ)
own_words [] = []
own_words (program ∷ []) = program ∷ []
own_words (program ∷ (first ∷ others)) = if bytes_eq first (codes "ssr") then first ∷ others else program ∷ (first ∷ others)

-- ** What is found of an argument, by its name.

abbrev pub values_of : Found → List ℕ → List (List ℕ)
values_of found name = option_map_or raw_values (matched_of found name) []

abbrev pub is_set : Found → List ℕ → Bool
is_set found name = option_map_or (λ text. bytes_eq text (codes "true")) (first_value found name) false

-- ** What it says.

abbrev pub texts_in : Texts → List (List ℕ)
texts_in texts = map string_bytes texts.items

-- when diffs are shown in colours, by its words
abbrev pub color_of : List ℕ → Option Color
color_of text =
    if bytes_eq text (codes "auto") then Some Auto
    else if bytes_eq text (codes "always") then Some Always
    else if bytes_eq text (codes "never") then Some Never
    else None

abbrev pub color_or_auto : Option (List ℕ) → Option Color
color_or_auto None = Some Auto
color_or_auto (Some text) = color_of text

-- the place that a text spells; none without a text
abbrev pub IsPlaceIn : Option (List ℕ) → Option Place → Type 0
IsPlaceIn text place = MatchOption text (place ≡ None) (λ spelled. IsSomeAnd place (Spells spelled))

-- each part of what is given is that of the argument with its name
pub record IsGiven (found : Found) (given : Given) : Type 0 where
  pub rules : texts_in given.rules ≡ values_of found (codes "rule")
  pub rules_file : option_map string_bytes given.rules_file ≡ first_value found (codes "rules")
  pub patterns : texts_in given.patterns ≡ values_of found (codes "search")
  pub snippet : option_map string_bytes given.snippet ≡ first_value found (codes "debug")
  pub write : given.write ≡ is_set found (codes "write")
  pub check : given.check ≡ is_set found (codes "check")
  pub json : given.json ≡ is_set found (codes "json")
  pub undecided : given.undecided ≡ is_set found (codes "undecided")
  pub no_macros : given.no_macros ≡ is_set found (codes "no-macros")
  pub quiet : given.quiet ≡ is_set found (codes "quiet")
  pub color : Some given.color ≡ color_or_auto (first_value found (codes "color"))
  pub place : IsPlaceIn (first_value found (codes "in")) given.place
  pub paths : texts_in given.paths ≡ values_of found (codes "path")
  pub package_name : option_map string_bytes given.package ≡ first_value found (codes "package")
  pub manifest : option_map string_bytes given.manifest ≡ first_value found (codes "manifest-path")
  pub facts : option_map string_bytes given.facts ≡ first_value found (codes "facts")

-- the options that words say: what the parser of command lines finds in them, each part by its name, of which all goes together
pub record AreOptionsOf (words : List (List ℕ)) (options : Options) : Type 0 where
  pub command : Command
  pub matches : ArgMatches
  pub parsed : HasMatchesOf (app_of command) (own_words words) matches
  pub given : Given
  pub by_name : IsGiven (found_of matches) given
  pub together : mismatch_of given ≡ None
  pub options_are : options ≡ options_of given
