-- Private: the text that tokens spell so far, as it is kept.
use Rattle.std.specs.Prelude.{map, string_bytes}
use Rattle.ssr_base_trees.specs.Origins.{Span, plain_origin}
use Rattle.ssr_standing.specs.declared.spelling.Place.{Place}
use Rattle.ssr_standing.specs.declared.spelling.Speller.{Speller}
use Rattle.ssr_standing.specs.Expansions.{Spelled}

abbrev pub place_of : Place → Span
place_of place = record { start = place.start; end = place.end }

abbrev pub shown : Speller → Spelled
shown s = record { text = string_bytes s.text; places = map place_of s.places.items; behind = plain_origin s.behind; change = s.change }
