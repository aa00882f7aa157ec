-- Where the tokens of two texts side by side are those of both: at a bracket, a comma or a `;`.
use Rattle.std.specs.Prelude.{ℕ, ◌+◌, ◌==◌, ◌&&◌, Bool, true, false, List, [], ◌∷◌, map}
use Rattle.std.specs.List.{list_any}
use Rattle.std.proofs.Math.Nat.{add-le-add, le_refl}
use Rattle.ssr_syntax_kinds.specs.Kinds.{same_kind}
use Rattle.ssr_syntax_lex.specs.Characters.{◌∈◌}
use Rattle.ssr_syntax_lex.specs.Cursor.{begins}
use Rattle.ssr_syntax_lex.specs.Tokens.{in_front, token_text}
use Rattle.ssr_syntax_kinds.specs.declared.kinds.SyntaxKind.{SyntaxKind}
use Rattle.ssr_syntax_kinds.specs.declared.kinds.SyntaxKind.TheVariants as k
use Rattle.ssr_syntax_kinds.specs.declared.range.TextRange.{TextRange}
use Rattle.ssr_syntax_lex.specs.declared.tokens.RawToken.{RawToken}

-- a bracket, a comma or `;`: a token of its own, which ends the one in front, and beyond which no other looks
abbrev pub is_seam : ℕ → Bool
is_seam c = c ∈ "()[]{},;"

-- the kinds of these characters
abbrev pub is_seam_kind : SyntaxKind → Bool
is_seam_kind k.L_PAREN = true
is_seam_kind k.R_PAREN = true
is_seam_kind k.L_BRACK = true
is_seam_kind k.R_BRACK = true
is_seam_kind k.L_CURLY = true
is_seam_kind k.R_CURLY = true
is_seam_kind k.COMMA = true
is_seam_kind k.SEMICOLON = true
is_seam_kind _ = false

abbrev pub begins_at_seam : List RawToken → Bool
begins_at_seam [] = false
begins_at_seam (t ∷ ts) = is_seam_kind t.kind

abbrev pub ends_at_seam : List RawToken → Bool
ends_at_seam [] = false
ends_at_seam (t ∷ []) = is_seam_kind t.kind
ends_at_seam (t ∷ u ∷ us) = ends_at_seam (u ∷ us)

-- a range so many bytes further on
abbrev pub range_moved : ℕ → TextRange → TextRange
range_moved n range = record { start = n + range.start; end = n + range.end; ordered = add-le-add (le_refl n) range.ordered }

-- a token so many bytes further on
abbrev pub moved : ℕ → RawToken → RawToken
moved n t = record { kind = t.kind; range = range_moved n t.range; joint = t.joint }

-- tokens in front of others: each is joint if the next one is punctuation
abbrev pub all_in_front : List RawToken → List RawToken → List RawToken
all_in_front [] us = us
all_in_front (t ∷ ts) us = in_front t.kind t.range (all_in_front ts us)

-- the tokens of a text of so many bytes, and those of a text directly behind it
abbrev pub side_by_side : ℕ → List RawToken → List RawToken → List RawToken
side_by_side n ts us = all_in_front ts (map (moved n) us)

-- the last token of a text is a comment to the end of a line, which what stands behind the text would lengthen
abbrev pub ends_in_line_comment : List ℕ → List RawToken → Bool
ends_in_line_comment text [] = false
ends_in_line_comment text (t ∷ []) = same_kind t.kind k.COMMENT && begins "//" (token_text text t)
ends_in_line_comment text (t ∷ u ∷ us) = ends_in_line_comment text (u ∷ us)

-- one of the tokens begins at this byte
abbrev pub has_token_at : ℕ → List RawToken → Bool
has_token_at n ts = list_any (λ t. t.range.start == n) ts
