-- The tokens of characters, wherever they stand: with any fuel that is enough, from another byte on, and with a bracket, a
-- comma or `;` and more behind them.
use Rattle.std.proofs.Common.{◌≡◌, ℕ, suc, zero, ◌+◌, ◌-◌, ◌<◌, ◌≤◌, ◌==◌, Bool, true, false, not, ◌&&◌, ◌||◌, if◌then◌else◌, List, [], ◌∷◌, ◌++◌, length, map, refl, sym, ap, subst, ◌∙◌, arith, length-append}
use Rattle.std.specs.Prelude.{Option, Some, None, encode_utf8_all, ◌≢◌}
use Rattle.std.specs.Option.{option_map, option_map_or, option_and_then}
use Rattle.std.proofs.lemmas.Option.{same_Some}
use Rattle.std.proofs.lemmas.Str.{encodes-append, encode_ascii}
use Rattle.ssr_syntax_lex.specs.Cursor.{Chars, begins, past}
use Rattle.ssr_syntax_lex.specs.Characters.{◌∈◌, the_char, is_in_line}
use Rattle.ssr_syntax_lex.specs.Words.{mark_kind}
use Rattle.ssr_syntax_lex.specs.Raw.{Taken, token}
use Rattle.ssr_syntax_lex.specs.Tokens.{size, range_of, begins_with_punctuation, in_front, dots_behind, tokens_from}
use Rattle.ssr_syntax_lex.specs.Seams.{is_seam, is_seam_kind, range_moved, moved, all_in_front}
use Rattle.ssr_syntax_lex.specs.Private.Steps.{IsPlain}
use Rattle.ssr_syntax_kinds.specs.Kinds.{same_kind}
use Rattle.ssr_syntax_kinds.proofs.Shared.{same_kind-equal}
use Rattle.ssr_syntax_kinds.specs.declared.kinds.SyntaxKind.{SyntaxKind}
use Rattle.ssr_syntax_kinds.specs.declared.kinds.SyntaxKind.TheVariants as k
use Rattle.ssr_syntax_kinds.specs.declared.range.TextRange.{TextRange}
use Rattle.ssr_syntax_lex.specs.declared.tokens.RawToken.{RawToken}
use Rattle.ssr_syntax_lex.proofs.FirstCharacters.{token_mark}
use Rattle.ssr_syntax_lex.proofs.Fronts.{token_leaves, shorter}
use Rattle.ssr_syntax_lex.proofs.Ranges.{TextRange-same}
use Rattle.ssr_syntax_lex.proofs.Cutting.{one_more}
use Rattle.ssr_syntax_lex.proofs.SeamScans.{fails, so_true, seam_ascii}
use Rattle.ssr_syntax_lex.proofs.SeamToken.{Joins, token_joins}

some_tokens : (ts us : List RawToken) → ts ≡ us → ◌≡◌ {A = Option (List RawToken)} (Some ts) (Some us)
some_tokens ts us e = ap (λ (xs : List RawToken). let o : Option (List RawToken) = Some xs in o) e

-- where there is no token at the front, there are none
pub no_more : (fuel start dots d : ℕ) (cs : Chars) → token dots (d ∷ cs) ≡ None → tokens_from (suc fuel) start dots (d ∷ cs) ≡ None
no_more fuel start dots d cs e =
    ap (option_and_then (λ (taken : Taken). let count : ℕ = size (d ∷ cs) - size taken.1 in
    option_map (in_front taken.0 (range_of start count)) (tokens_from fuel (start + count) (dots_behind dots taken.0) taken.1))) e

-- what follows a token is shorter
pub rest_shorter : (dots d : ℕ) (cs : Chars) (taken : Taken) → token dots (d ∷ cs) ≡ Some taken → (length taken.1 ≤ length cs) × (size taken.1 < size (d ∷ cs))
rest_shorter dots d cs taken e = shorter d cs taken.1 (token_leaves dots d cs taken e)

-- ** Fuel.
abbrev SameFuel : ℕ → ℕ → Type 0
SameFuel f g = (start dots : ℕ) (cs : Chars) → length cs ≤ f → length cs ≤ g → tokens_from f start dots cs ≡ tokens_from g start dots cs

token_fuel : (f g start dots d : ℕ) (cs : Chars) (o : Option Taken) → token dots (d ∷ cs) ≡ o → SameFuel f g → length cs ≤ f → length cs ≤ g → tokens_from (suc f) start dots (d ∷ cs) ≡ tokens_from (suc g) start dots (d ∷ cs)
token_fuel f g start dots d cs None e same enough more = no_more f start dots d cs e ∙ sym (no_more g start dots d cs e)
token_fuel f g start dots d cs (Some taken) e same enough more =
    let less = rest_shorter dots d cs taken e in
    let count : ℕ = size (d ∷ cs) - size taken.1 in
    one_more f start dots d cs taken.0 taken.1 e
    ∙ ap (option_map (in_front taken.0 (range_of start count))) (same (start + count) (dots_behind dots taken.0) taken.1 (omega (arith, less.0, enough)) (omega (arith, less.0, more)))
    ∙ sym (one_more g start dots d cs taken.0 taken.1 e)

pub any_fuel : (f g : ℕ) → SameFuel f g
any_fuel f g start dots [] enough more = refl
any_fuel zero g start dots (d ∷ cs) enough more = absurd (omega arith)
any_fuel (suc f) zero start dots (d ∷ cs) enough more = absurd (omega arith)
any_fuel (suc f) (suc g) start dots (d ∷ cs) enough more =
    token_fuel f g start dots d cs (token dots (d ∷ cs)) refl (any_fuel f g) (omega arith) (omega arith)

-- ** From another byte on.
range_further : (n start count : ℕ) → range_of (n + start) count ≡ range_moved n (range_of start count)
range_further n start count = TextRange-same (range_of (n + start) count) (range_moved n (range_of start count)) refl (omega arith)

pub punctuation_moved : (n : ℕ) (ts : List RawToken) → begins_with_punctuation (map (moved n) ts) ≡ begins_with_punctuation ts
punctuation_moved n [] = refl
punctuation_moved n (t ∷ ts) = refl

in_front_moved : (n start count : ℕ) (kind : SyntaxKind) (ts : List RawToken) → in_front kind (range_of (n + start) count) (map (moved n) ts) ≡ map (moved n) (in_front kind (range_of start count) ts)
in_front_moved n start count kind ts =
    ap (λ (r : TextRange). in_front kind r (map (moved n) ts)) (range_further n start count)
    ∙ ap (λ (j : Bool). let t : RawToken = record { kind = kind; range = range_moved n (range_of start count); joint = j } in t ∷ map (moved n) ts) (punctuation_moved n ts)

map_in_front : (n start count : ℕ) (kind : SyntaxKind) (o : Option (List RawToken)) → option_map (in_front kind (range_of (n + start) count)) (option_map (map (moved n)) o) ≡ option_map (map (moved n)) (option_map (in_front kind (range_of start count)) o)
map_in_front n start count kind None = refl
map_in_front n start count kind (Some ts) = some_tokens _ _ (in_front_moved n start count kind ts)

abbrev Shifts : ℕ → ℕ → Type 0
Shifts n f = (start dots : ℕ) (cs : Chars) → tokens_from f (n + start) dots cs ≡ option_map (map (moved n)) (tokens_from f start dots cs)

token_shifted : (n f start dots d : ℕ) (cs : Chars) (o : Option Taken) → token dots (d ∷ cs) ≡ o → Shifts n f → tokens_from (suc f) (n + start) dots (d ∷ cs) ≡ option_map (map (moved n)) (tokens_from (suc f) start dots (d ∷ cs))
token_shifted n f start dots d cs None e shifts =
    no_more f (n + start) dots d cs e ∙ sym (ap (option_map (map (moved n))) (no_more f start dots d cs e))
token_shifted n f start dots d cs (Some taken) e shifts =
    let count : ℕ = size (d ∷ cs) - size taken.1 in
    let place : (n + start) + count ≡ n + (start + count) = omega arith in
    one_more f (n + start) dots d cs taken.0 taken.1 e
    ∙ ap (option_map (in_front taken.0 (range_of (n + start) count)))
    (ap (λ s. tokens_from f s (dots_behind dots taken.0) taken.1) place ∙ shifts (start + count) (dots_behind dots taken.0) taken.1)
    ∙ map_in_front n start count taken.0 (tokens_from f (start + count) (dots_behind dots taken.0) taken.1)
    ∙ sym (ap (option_map (map (moved n))) (one_more f start dots d cs taken.0 taken.1 e))

pub shifted : (n f : ℕ) → Shifts n f
shifted n f start dots [] = refl
shifted n zero start dots (d ∷ cs) = refl
shifted n (suc f) start dots (d ∷ cs) = token_shifted n f start dots d cs (token dots (d ∷ cs)) refl (shifted n f)

-- ** The seam itself.
kind_there : (o : Option SyntaxKind) → option_map_or is_seam_kind o false ≡ true → (kind : SyntaxKind) × (o ≡ Some kind) × (is_seam_kind kind ≡ true)
kind_there None e = absurd (cc)
kind_there (Some kind) e = (kind, refl, e)

seam_kind : (c : ℕ) → is_seam c ≡ true → (kind : SyntaxKind) × (mark_kind c ≡ Some kind) × (is_seam_kind kind ≡ true)
unfolding mark_kind
seam_kind c seam = kind_there (mark_kind c) (so_true _ (fails (λ d. not (option_map_or is_seam_kind (mark_kind d) false)) refl c seam))

no_dot : (kind : SyntaxKind) (x : Bool) → is_seam_kind kind ≡ true → same_kind kind k.DOT ≡ x → x ≡ false
no_dot kind true seam e = let clash : false ≡ true = sym (ap is_seam_kind (same_kind-equal kind k.DOT e)) ∙ seam in absurd (cc)
no_dot kind false seam e = refl

apart : (test : ℕ → Bool) (c d : ℕ) → test c ≡ false → test d ≡ true → c ≢ d
apart test c d one other e = let clash : false ≡ true = sym one ∙ ap test e ∙ other in absurd (cc)

seam_plain : (c : ℕ) → is_seam c ≡ true → IsPlain c
seam_plain c seam = (
  apart (λ d. d ∈ "/") c (the_char "/") (fails (λ d. d ∈ "/") refl c seam) refl,
  apart (λ d. d ∈ "\"") c (the_char "\"") (fails (λ d. d ∈ "\"") refl c seam) refl,
  apart (λ d. d ∈ "r") c (the_char "r") (fails (λ d. d ∈ "r") refl c seam) refl,
  apart (λ d. d ∈ "b") c (the_char "b") (fails (λ d. d ∈ "b") refl c seam) refl,
  apart (λ d. d ∈ "c") c (the_char "c") (fails (λ d. d ∈ "c") refl c seam) refl,
  apart (λ d. d ∈ "'") c (the_char "'") (fails (λ d. d ∈ "'") refl c seam) refl,
)

one_byte : (c : ℕ) (b : Chars) → is_seam c ≡ true → size (c ∷ b) - size b ≡ 1
one_byte c b seam =
    let bytes : size (c ∷ b) ≡ size (c ∷ []) + size b = ap length (encodes-append (c ∷ []) b) ∙ length-append (encode_utf8_all (c ∷ [])) (encode_utf8_all b) in
    let one : size (c ∷ []) ≡ 1 = ap (λ (bs : List ℕ). length (bs ++ [])) (encode_ascii c (seam_ascii c seam)) in
    omega (arith, bytes, one)

-- the kind of its token
pub kind_at : (c : ℕ) → is_seam c ≡ true → SyntaxKind
kind_at c seam = (seam_kind c seam).0

pub kind_at-seam : (c : ℕ) (seam : is_seam c ≡ true) → is_seam_kind (kind_at c seam) ≡ true
unfolding kind_at
kind_at-seam c seam = (seam_kind c seam).2

-- a bracket, a comma or `;` is a token, and what follows doesn't know what stands in front of it
pub seam_first : (fuel start dots c : ℕ) (b : Chars) (seam : is_seam c ≡ true) → tokens_from (suc fuel) start dots (c ∷ b) ≡ option_map (in_front (kind_at c seam) (range_of start 1)) (tokens_from fuel (start + 1) 0 b)
unfolding kind_at
seam_first fuel start dots c b seam =
    let known = seam_kind c seam in
    one_more fuel start dots c b known.0 b (token_mark dots c (c ∷ b) known.0 refl (seam_plain c seam) known.1)
    ∙ ap (λ n. option_map (in_front known.0 (range_of start n)) (tokens_from fuel (start + n) (dots_behind dots known.0) b)) (one_byte c b seam)
    ∙ ap (λ x. option_map (in_front known.0 (range_of start 1)) (tokens_from fuel (start + 1) (if x then dots + 1 else 0) b)) (no_dot known.0 _ known.2 refl)

pub any_dots : (fuel start dots c : ℕ) (b : Chars) → is_seam c ≡ true → tokens_from fuel start dots (c ∷ b) ≡ tokens_from fuel start 0 (c ∷ b)
any_dots zero start dots c b seam = refl
any_dots (suc fuel) start dots c b seam = seam_first fuel start dots c b seam ∙ sym (seam_first fuel start 0 c b seam)

-- the tokens of a seam and more are these, whatever stands in front
abbrev pub AreBehind : ℕ → Chars → ℕ → List RawToken → Type 0
AreBehind c b place us = (fuel dots : ℕ) → length (c ∷ b) ≤ fuel → tokens_from fuel place dots (c ∷ b) ≡ Some us

pub are_behind : (c : ℕ) (b : Chars) (place : ℕ) (us : List RawToken) → is_seam c ≡ true → tokens_from (length (c ∷ b)) 0 0 (c ∷ b) ≡ Some us → AreBehind c b place (map (moved place) us)
are_behind c b place us seam e fuel dots enough =
    let here : place ≡ place + 0 = omega arith in
    any_dots fuel place dots c b seam
    ∙ any_fuel fuel (length (c ∷ b)) place 0 (c ∷ b) enough (omega arith)
    ∙ ap (λ s. tokens_from (length (c ∷ b)) s 0 (c ∷ b)) here
    ∙ shifted place (length (c ∷ b)) 0 0 (c ∷ b)
    ∙ ap (option_map (map (moved place))) e

-- ** A comment to the end of a line that goes to the end of the characters is their last token.
abbrev pub runs_out : ℕ → ℕ → Chars → Bool
runs_out fuel dots [] = false
runs_out zero dots (c ∷ cs) = false
runs_out (suc fuel) dots (c ∷ cs) =
    (begins "//" (c ∷ cs) && (length (past is_in_line (c ∷ cs)) == 0))
    || option_map_or (λ (taken : Taken). runs_out fuel (dots_behind dots taken.0) taken.1) (token dots (c ∷ cs)) false

pub or_false : (x y : Bool) → (x || y) ≡ false → (x ≡ false) × (y ≡ false)
or_false true y e = absurd (cc)
or_false false y e = (refl, e)

pub ends_inside : (cs : Chars) → (begins "//" cs && (length (past is_in_line cs) == 0)) ≡ false → begins "//" cs ≡ true → 0 < length (past is_in_line cs)
ends_inside cs goes line = some_left (past is_in_line cs) (sym (ap (λ x. x && (length (past is_in_line cs) == 0)) line) ∙ goes)
  where
    some_left : (rest : Chars) → (length rest == 0) ≡ false → 0 < length rest
    some_left [] e = absurd (cc)
    some_left (d ∷ rest) e = omega arith

-- ** With a seam and more behind them.
pub size_append : (xs ys : Chars) → size (xs ++ ys) ≡ size xs + size ys
size_append xs ys = ap length (encodes-append xs ys) ∙ length-append (encode_utf8_all xs) (encode_utf8_all ys)

pub same_count : (d : ℕ) (cs rest more : Chars) → size (d ∷ (cs ++ more)) - size (rest ++ more) ≡ size (d ∷ cs) - size rest
same_count d cs rest more = omega (arith, size_append (d ∷ cs) more, size_append rest more)

module _ (c : ℕ) (b : Chars) (seam : is_seam c ≡ true) where
  abbrev Goes : ℕ → ℕ → Type 0
  Goes fuel more = (start dots : ℕ) (cs : Chars) (ts us : List RawToken) → length (cs ++ c ∷ b) ≤ more
      → tokens_from fuel start dots cs ≡ Some ts → runs_out fuel dots cs ≡ false → AreBehind c b (start + size cs) us
      → tokens_from more start dots (cs ++ c ∷ b) ≡ Some (all_in_front ts us)

  rest_goes : (fuel more start dots d : ℕ) (cs : Chars) (ts us : List RawToken) (taken : Taken) (o : Option (List RawToken)) → Goes fuel more
      → length (cs ++ c ∷ b) ≤ more → token dots (d ∷ cs) ≡ Some taken → token dots (d ∷ (cs ++ c ∷ b)) ≡ Some (taken.0, taken.1 ++ c ∷ b)
      → tokens_from fuel (start + (size (d ∷ cs) - size taken.1)) (dots_behind dots taken.0) taken.1 ≡ o
      → option_map (in_front taken.0 (range_of start (size (d ∷ cs) - size taken.1))) o ≡ Some ts
      → runs_out fuel (dots_behind dots taken.0) taken.1 ≡ false → AreBehind c b (start + size (d ∷ cs)) us
      → tokens_from (suc more) start dots (d ∷ (cs ++ c ∷ b)) ≡ Some (all_in_front ts us)
  rest_goes fuel more start dots d cs ts us taken None goes enough here there is e inside behind = absurd (cc)
  rest_goes fuel more start dots d cs ts us taken (Some vs) goes enough here there is e inside behind =
      let less = rest_shorter dots d cs taken here in
      let count : ℕ = size (d ∷ cs) - size taken.1 in
      let place : (start + count) + size taken.1 ≡ start + size (d ∷ cs) = omega (arith, less.1) in
      let fits : length (taken.1 ++ c ∷ b) ≤ more = omega (arith, less.0, enough, length-append taken.1 (c ∷ b), length-append cs (c ∷ b)) in
      one_more more start dots d (cs ++ c ∷ b) taken.0 (taken.1 ++ c ∷ b) there
      ∙ ap (λ n. option_map (in_front taken.0 (range_of start n)) (tokens_from more (start + n) (dots_behind dots taken.0) (taken.1 ++ c ∷ b))) (same_count d cs taken.1 (c ∷ b))
      ∙ ap (option_map (in_front taken.0 (range_of start count)))
      (goes (start + count) (dots_behind dots taken.0) taken.1 vs us fits is inside (λ f n h. ap (λ s. tokens_from f s n (c ∷ b)) place ∙ behind f n h))
      ∙ some_tokens (in_front taken.0 (range_of start count) (all_in_front vs us)) (all_in_front ts us)
      (ap (λ (xs : List RawToken). all_in_front xs us) (same_Some (in_front taken.0 (range_of start count) vs) ts e))

  token_goes : (fuel more start dots d : ℕ) (cs : Chars) (ts us : List RawToken) (o : Option Taken) → Goes fuel more → length (cs ++ c ∷ b) ≤ more
      → token dots (d ∷ cs) ≡ o → tokens_from (suc fuel) start dots (d ∷ cs) ≡ Some ts → runs_out (suc fuel) dots (d ∷ cs) ≡ false
      → AreBehind c b (start + size (d ∷ cs)) us → tokens_from (suc more) start dots (d ∷ (cs ++ c ∷ b)) ≡ Some (all_in_front ts us)
  token_goes fuel more start dots d cs ts us None goes enough is e inside behind =
      let none : None ≡ Some ts = sym (no_more fuel start dots d cs is) ∙ e in absurd (cc)
  token_goes fuel more start dots d cs ts us (Some taken) goes enough is e inside behind =
      let parts = or_false _ _ inside in
      let count : ℕ = size (d ∷ cs) - size taken.1 in
      rest_goes fuel more start dots d cs ts us taken (tokens_from fuel (start + count) (dots_behind dots taken.0) taken.1) goes enough is
      (subst (λ (o : Option Taken). Joins c b o (token dots (d ∷ (cs ++ c ∷ b)))) is (token_joins c b seam dots d cs (ends_inside (d ∷ cs) parts.0)))
      refl (sym (one_more fuel start dots d cs taken.0 taken.1 is) ∙ e)
      (sym (ap (λ o. option_map_or (λ (t : Taken). runs_out fuel (dots_behind dots t.0) t.1) o false) is) ∙ parts.1)
      behind

  -- the tokens of the characters, and those of the seam and more
  pub goes_on : (fuel more : ℕ) → Goes fuel more
  goes_on fuel more start dots [] ts us enough e inside behind =
      let place : start ≡ start + size [] = omega arith in
      ap (λ s. tokens_from more s dots (c ∷ b)) place ∙ behind more dots enough
      ∙ some_tokens us (all_in_front ts us) (ap (λ (xs : List RawToken). all_in_front xs us) (same_Some [] ts e))
  goes_on zero more start dots (d ∷ cs) ts us enough e inside behind = absurd (cc)
  goes_on (suc fuel) zero start dots (d ∷ cs) ts us enough e inside behind = absurd (omega arith)
  goes_on (suc fuel) (suc more) start dots (d ∷ cs) ts us enough e inside behind =
      token_goes fuel more start dots d cs ts us (token dots (d ∷ cs)) (goes_on fuel more) (omega arith) refl e inside behind
