-- Where the tokens of a tree come from: each from a span of bytes of a file, or from nowhere.
use Rattle.std.specs.Prelude.{ℕ, ◌&&◌, nat_lt, Bool, true, List, [], ◌∷◌, min, max, Option, Some, None}
use Rattle.std.specs.Option.{option_map}
use Rattle.ssr_syntax_kinds.specs.declared.range.TextRange.{TextRange}
use Rattle.ssr_base_trees.specs.declared.covers.Cover.{Cover as Stored}
use Rattle.ssr_base_trees.specs.declared.covers.Cover.TheVariants as stored
use Rattle.ssr_base_trees.specs.Texts.{is_boundary}

-- the bytes from `start` up to before `end`
pub record Span : Type 0 where
  pub start : ℕ
  pub end : ℕ

abbrev pub span_of : TextRange → Span
span_of range = record { start = range.start; end = range.end }

-- what covers the origins of tokens: nothing where there is no token, and nothing where one of them has no origin, else a span
pub data Cover : Type 0 where
  no_token : Cover
  no_origin : Cover
  covers : Span → Cover

-- the least cover of two covers
abbrev pub join : Cover → Cover → Cover
join no_token c = c
join no_origin c = no_origin
join (covers a) no_token = covers a
join (covers a) no_origin = no_origin
join (covers a) (covers b) = covers (record { start = min a.start b.start; end = max a.end b.end })

abbrev pub cover_of_one : Option Span → Cover
cover_of_one None = no_origin
cover_of_one (Some span) = covers span

abbrev pub cover_of : List (Option Span) → Cover
cover_of [] = no_token
cover_of (origin ∷ origins) = join (cover_of_one origin) (cover_of origins)

-- the span that covers the origins of tokens, if there is a token and all have one
abbrev pub covered : Cover → Option Span
covered no_token = None
covered no_origin = None
covered (covers span) = Some span

-- whether a token has no origin, or one that has a byte and lies between characters of a text
abbrev pub fits_origin : List ℕ → Option Span → Bool
fits_origin text None = true
fits_origin text (Some span) = nat_lt span.start span.end && (is_boundary text span.start && is_boundary text span.end)

-- ** As the code has them.

abbrev pub plain_cover : Stored → Cover
plain_cover stored.NoToken = no_token
plain_cover stored.NoOrigin = no_origin
plain_cover (stored.Range range) = covers (span_of range)

abbrev pub plain_origin : Option TextRange → Option Span
plain_origin origin = option_map span_of origin
