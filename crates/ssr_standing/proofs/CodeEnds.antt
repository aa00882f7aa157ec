-- Where the code of a text ends.
use Rattle.std.proofs.Common.{◌≡◌, ◌∙◌, ◌<◌, ◌≤◌, ◌^◌, ℕ, Bool, true, false, List, [], ◌∷◌, length, ap, subst, sym}
use Rattle.std.specs.Prelude.{Option, Some, None, IsCharBoundary, if◌then◌else◌}
use Rattle.std.specs.Option.{option_map_or}
use Rattle.std.proofs.lemmas.Bool.{le-ltb, lt-ltb}
use Rattle.std.proofs.lemmas.Str.{IsCharBoundary-end}
use Rattle.ssr_syntax_kinds.specs.Kinds.{is_trivia}
use Rattle.ssr_syntax_lex.specs.Tokens.{TilesFrom, tokens}
use Rattle.ssr_syntax_lex.specs.declared.tokens.RawToken.{RawToken}
use Rattle.ssr_standing.specs.Code.{code_end, end_of_last}

-- tokens begin between characters
begins_between : (text : List ℕ) (start : ℕ) (ts : List RawToken) → TilesFrom text start ts → IsCharBoundary text start
begins_between text start [] tiles = subst (IsCharBoundary text) (sym tiles) (IsCharBoundary-end text)
begins_between text start (t ∷ ts) tiles = tiles.2

one_of : (text : List ℕ) (b : Bool) (end other : ℕ) (ts : List RawToken) → IsCharBoundary text (end_of_last end ts) → IsCharBoundary text (end_of_last other ts)
    → IsCharBoundary text (end_of_last (if b then end else other) ts)
one_of text true end other ts h g = h
one_of text false end other ts h g = g

-- and so ends the last one that is neither white space nor a comment
pub ends_between : (text : List ℕ) (start end : ℕ) (ts : List RawToken) → TilesFrom text start ts → IsCharBoundary text end
    → IsCharBoundary text (end_of_last end ts)
ends_between text start end [] tiles here = here
ends_between text start end (t ∷ ts) tiles here =
    one_of text (is_trivia t.kind) end t.range.end ts (ends_between text t.range.end end ts tiles.3 here)
    (ends_between text t.range.end t.range.end ts tiles.3 (begins_between text t.range.end ts tiles.3))

-- by the tokens of a text, or where it has none
abbrev pub end_by : List ℕ → Bool → Option (List RawToken) → ℕ
end_by text short ts = if short then option_map_or (end_of_last 0) ts (length text) else length text

pub code_of_tokens : (text : List ℕ) (ts : List RawToken) → length text < 2 ^ 32 → tokens text ≡ Some ts → end_of_last 0 ts ≡ code_end text
unfolding code_end
code_of_tokens text ts short is =
    sym (ap (λ (b : Bool). end_by text b (tokens text)) (lt-ltb (length text) (2 ^ 32) short) ∙ ap (end_by text true) is)

pub code_of_fault : (text : List ℕ) → length text < 2 ^ 32 → tokens text ≡ None → length text ≡ code_end text
unfolding code_end
code_of_fault text short is =
    sym (ap (λ (b : Bool). end_by text b (tokens text)) (lt-ltb (length text) (2 ^ 32) short) ∙ ap (end_by text true) is)

pub code_of_long : (text : List ℕ) → 2 ^ 32 ≤ length text → length text ≡ code_end text
unfolding code_end
code_of_long text long = sym (ap (λ (b : Bool). end_by text b (tokens text)) (le-ltb (length text) (2 ^ 32) long))
