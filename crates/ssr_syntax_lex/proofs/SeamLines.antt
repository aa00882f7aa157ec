-- Where a text ends in a comment to the end of a line, by its tokens and by its characters.
use Rattle.std.proofs.Common.{◌≡◌, ℕ, suc, zero, ◌+◌, ◌-◌, ◌<◌, ◌≤◌, ◌==◌, Bool, true, false, ◌&&◌, ◌||◌, List, [], ◌∷◌, ◌++◌, length, take, drop, refl, sym, ap, ◌∙◌, arith, length-append, eqb-true}
use Rattle.std.specs.Prelude.{Option, Some, None, encode_utf8, encode_utf8_all, slice_range}
use Rattle.std.specs.Option.{option_map, option_map_or}
use Rattle.std.proofs.Math.Seq.{drop-append_seam, take-length}
use Rattle.std.proofs.lemmas.Bool.{and_right}
use Rattle.std.proofs.lemmas.Option.{same_Some}
use Rattle.std.proofs.lemmas.Str.{encode_ascii, length-encode, len_utf8_bounds, byte_from_char, char_from_byte}
use Rattle.ssr_syntax_lex.specs.Cursor.{Chars, passes_at, begins, past}
use Rattle.ssr_syntax_lex.specs.Characters.{the_char, is_in_line}
use Rattle.ssr_syntax_lex.specs.Raw.{Taken, token}
use Rattle.ssr_syntax_lex.specs.Tokens.{size, range_of, begins_with_punctuation, in_front, dots_behind, tokens_from, token_text}
use Rattle.ssr_syntax_lex.specs.Seams.{ends_in_line_comment}
use Rattle.ssr_syntax_kinds.specs.Kinds.{same_kind}
use Rattle.ssr_syntax_kinds.specs.declared.kinds.SyntaxKind.{SyntaxKind}
use Rattle.ssr_syntax_kinds.specs.declared.kinds.SyntaxKind.TheVariants as k
use Rattle.ssr_syntax_lex.specs.declared.tokens.RawToken.{RawToken}
use Rattle.ssr_syntax_lex.proofs.Eaten.{not_empty}
use Rattle.ssr_syntax_lex.proofs.Fronts.{token_leaves}
use Rattle.ssr_syntax_lex.proofs.Cutting.{one_more}
use Rattle.ssr_syntax_lex.proofs.Tiling.{EndsAt, ends_further}
use Rattle.ssr_syntax_lex.proofs.SeamTests.{and_same}
use Rattle.ssr_syntax_lex.proofs.SeamToken.{line_token}
use Rattle.ssr_syntax_lex.proofs.SeamRuns.{no_more, runs_out}

-- ** The first two bytes are slashes where the first two characters are.
first_same : (x d y : ℕ) (ys more : List ℕ) (p q : Bool) → x < 128 → y ∷ ys ≡ encode_utf8 d ++ more → (y == x) ≡ p → (d == x) ≡ q → p ≡ q
first_same x d y ys more true true small e byte char = refl
first_same x d y ys more false false small e byte char = refl
first_same x d y ys more true false small e byte char =
    let one : y ≡ x = eqb-true y x byte in
    let below : y < 128 = omega (arith, one, small) in
    let some : 0 < length (y ∷ ys) = omega arith in
    let same : d ≡ y = char_from_byte (y ∷ ys) more d e below some in
    let clash : true ≡ false = sym byte ∙ ap (λ z. z == x) (sym same) ∙ char in absurd (cc)
first_same x d y ys more false true small e byte char =
    let one : d ≡ x = eqb-true d x char in
    let below : d < 128 = omega (arith, one, small) in
    let same : y ≡ d = byte_from_char (y ∷ ys) more d e below in
    let clash : true ≡ false = sym char ∙ ap (λ z. z == x) (sym same) ∙ byte in absurd (cc)

first_byte : (x d : ℕ) (bs more : List ℕ) → x < 128 → bs ≡ encode_utf8 d ++ more → passes_at 0 (λ e. e == x) bs ≡ (d == x)
first_byte x d [] more small e =
    let one : 1 ≤ length (encode_utf8 d) = omega (arith, length-encode d, len_utf8_bounds d) in
    absurd (omega (arith, ap length e, one, length-append (encode_utf8 d) more))
first_byte x d (y ∷ ys) more small e = first_same x d y ys more (y == x) (d == x) small e refl refl

front_same : (x : ℕ) (cs : Chars) → x < 128 → passes_at 0 (λ e. e == x) (encode_utf8_all cs) ≡ passes_at 0 (λ e. e == x) cs
front_same x [] small = refl
front_same x (d ∷ cs) small = first_byte x d (encode_utf8_all (d ∷ cs)) (encode_utf8_all cs) small refl

slashes : (cs : Chars) → begins "//" (encode_utf8_all cs) ≡ begins "//" cs
slashes [] = refl
slashes (d ∷ cs) =
    let is_slash : ℕ → Bool = λ e. e == the_char "/" in
    let small : the_char "/" < 128 = omega arith in
    and_same _ _ _ _ (front_same (the_char "/") (d ∷ cs) small)
    (λ first. ap (λ x. passes_at 1 is_slash (encode_utf8 x ++ encode_utf8_all cs)) (eqb-true d (the_char "/") first)
    ∙ ap (λ (bs : List ℕ). passes_at 1 is_slash (bs ++ encode_utf8_all cs)) (encode_ascii (the_char "/") small)
    ∙ front_same (the_char "/") cs small)

-- ** The last token of a text.
whole_slice : (text front bytes : List ℕ) (start end : ℕ) → text ≡ front ++ bytes → length front ≡ start → end ≡ start + length bytes → slice_range text start end ≡ bytes
whole_slice text front bytes start end parts place reach =
    let count : end - start ≡ length bytes = omega (arith, reach) in
    let rest : drop start text ≡ bytes = ap (λ n. drop n text) (sym place) ∙ ap (drop (length front)) parts ∙ drop-append_seam front bytes in
    ap (λ n. take n (drop start text)) count ∙ ap (take (length bytes)) rest ∙ take-length bytes

last_text : (text : List ℕ) (start d : ℕ) (cs : Chars) (kind : SyntaxKind) → EndsAt text start (d ∷ cs) → token_text text (record { kind = kind; range = range_of start (size (d ∷ cs) - size []); joint = false }) ≡ encode_utf8_all (d ∷ cs)
last_text text start d cs kind ends =
    let reach : start + (size (d ∷ cs) - size []) ≡ start + length (encode_utf8_all (d ∷ cs)) = omega arith in
    whole_slice text ends.front (encode_utf8_all (d ∷ cs)) start (start + (size (d ∷ cs) - size [])) ends.parts ends.place reach

-- what a comment to the end of a line leaves
line_rest : (dots : ℕ) (cs : Chars) (taken : Taken) → token dots cs ≡ Some taken → begins "//" cs ≡ true → (taken.0 ≡ k.COMMENT) × (past is_in_line cs ≡ taken.1)
line_rest dots cs taken is line =
    let same = same_Some _ _ (sym (line_token dots cs line) ∙ is) in
    (sym (ap (λ (t : Taken). t.0) same), ap (λ (t : Taken). t.1) same)

-- the last token is such a comment just where it begins as one
last_case : (dots d : ℕ) (cs : Chars) (kind : SyntaxKind) (line : Bool) → token dots (d ∷ cs) ≡ Some (kind, []) → begins "//" (d ∷ cs) ≡ line → (same_kind kind k.COMMENT && line) ≡ ((line && (length (past is_in_line (d ∷ cs)) == 0)) || false)
last_case dots d cs kind true is line =
    let known = line_rest dots (d ∷ cs) (kind, []) is line in
    ap (λ (x : SyntaxKind). same_kind x k.COMMENT && true) known.0 ∙ sym (ap (λ (xs : Chars). (length xs == 0) || false) known.1)
last_case dots d cs kind false is line = and_right (same_kind kind k.COMMENT) false refl

-- a token with others behind it is none that goes to the end
inner_case : (dots d x : ℕ) (cs xs : Chars) (kind : SyntaxKind) (line last : Bool) → token dots (d ∷ cs) ≡ Some (kind, x ∷ xs) → begins "//" (d ∷ cs) ≡ line → last ≡ ((line && (length (past is_in_line (d ∷ cs)) == 0)) || last)
inner_case dots d x cs xs kind true last is line =
    let known = line_rest dots (d ∷ cs) (kind, x ∷ xs) is line in
    sym (ap (λ y. y || last) (ap (λ (ys : Chars). length ys == 0) known.1 ∙ not_empty x xs))
inner_case dots d x cs xs kind false last is line = refl

some_behind : (text : List ℕ) (t : RawToken) (us : List RawToken) → (us ≡ [] → ⊥) → ends_in_line_comment text (t ∷ us) ≡ ends_in_line_comment text us
some_behind text t [] some = absurd (some refl)
some_behind text t (u ∷ us) some = refl

not_none : (kind : SyntaxKind) (start count : ℕ) (o : Option (List RawToken)) → option_map (in_front kind (range_of start count)) o ≡ Some [] → ⊥
not_none kind start count None e = cc
not_none kind start count (Some ts) e = let same = same_Some _ _ e in cc

some_token : (fuel start dots x : ℕ) (xs : Chars) (o : Option Taken) → token dots (x ∷ xs) ≡ o → tokens_from (suc fuel) start dots (x ∷ xs) ≡ Some [] → ⊥
some_token fuel start dots x xs None is e = let clash = sym (no_more fuel start dots x xs is) ∙ e in cc
some_token fuel start dots x xs (Some taken) is e =
    not_none taken.0 start (size (x ∷ xs) - size taken.1) _ (sym (one_more fuel start dots x xs taken.0 taken.1 is) ∙ e)

some_tokens : (fuel start dots x : ℕ) (xs : Chars) (us : List RawToken) → tokens_from fuel start dots (x ∷ xs) ≡ Some us → us ≡ [] → ⊥
some_tokens zero start dots x xs us e none = cc
some_tokens (suc fuel) start dots x xs us e none =
    some_token fuel start dots x xs (token dots (x ∷ xs)) refl (e ∙ ap (λ (ts : List RawToken). let o : Option (List RawToken) = Some ts in o) none)

abbrev SameEnd : List ℕ → ℕ → Type 0
SameEnd text fuel = (start dots : ℕ) (cs : Chars) (ts : List RawToken) → EndsAt text start cs → tokens_from fuel start dots cs ≡ Some ts → ends_in_line_comment text ts ≡ runs_out fuel dots cs

rest_end : (text : List ℕ) (fuel start dots d : ℕ) (cs : Chars) (kind : SyntaxKind) (rest : Chars) (us : List RawToken) → SameEnd text fuel → EndsAt text start (d ∷ cs) → token dots (d ∷ cs) ≡ Some (kind, rest)
    → tokens_from fuel (start + (size (d ∷ cs) - size rest)) (dots_behind dots kind) rest ≡ Some us
    → ends_in_line_comment text (in_front kind (range_of start (size (d ∷ cs) - size rest)) us)
    ≡ ((begins "//" (d ∷ cs) && (length (past is_in_line (d ∷ cs)) == 0)) || runs_out fuel (dots_behind dots kind) rest)
rest_end text fuel start dots d cs kind [] us same ends is e =
    let none : [] ≡ us = same_Some [] us e in
    ap (λ (ts : List RawToken). ends_in_line_comment text (in_front kind (range_of start (size (d ∷ cs) - size [])) ts)) (sym none)
    ∙ ap (λ (bs : List ℕ). same_kind kind k.COMMENT && begins "//" bs) (last_text text start d cs kind ends)
    ∙ ap (λ x. same_kind kind k.COMMENT && x) (slashes (d ∷ cs))
    ∙ last_case dots d cs kind (begins "//" (d ∷ cs)) is refl
rest_end text fuel start dots d cs kind (x ∷ xs) us same ends is e =
    let place : ℕ = start + (size (d ∷ cs) - size (x ∷ xs)) in
    let further : EndsAt text place (x ∷ xs) = ends_further text start d cs (x ∷ xs) ends (token_leaves dots d cs (kind, x ∷ xs) is) in
    let first : RawToken = record { kind = kind; range = range_of start (size (d ∷ cs) - size (x ∷ xs)); joint = begins_with_punctuation us } in
    some_behind text first us (some_tokens fuel place (dots_behind dots kind) x xs us e)
    ∙ same place (dots_behind dots kind) (x ∷ xs) us further e
    ∙ inner_case dots d x cs xs kind (begins "//" (d ∷ cs)) (runs_out fuel (dots_behind dots kind) (x ∷ xs)) is refl

tokens_end : (text : List ℕ) (fuel start dots d : ℕ) (cs : Chars) (taken : Taken) (ts : List RawToken) (o : Option (List RawToken)) → SameEnd text fuel → EndsAt text start (d ∷ cs) → token dots (d ∷ cs) ≡ Some taken
    → tokens_from fuel (start + (size (d ∷ cs) - size taken.1)) (dots_behind dots taken.0) taken.1 ≡ o
    → option_map (in_front taken.0 (range_of start (size (d ∷ cs) - size taken.1))) o ≡ Some ts
    → ends_in_line_comment text ts ≡ runs_out (suc fuel) dots (d ∷ cs)
tokens_end text fuel start dots d cs taken ts None same ends is e f = absurd (cc)
tokens_end text fuel start dots d cs taken ts (Some us) same ends is e f =
    ap (ends_in_line_comment text) (sym (same_Some _ _ f))
    ∙ rest_end text fuel start dots d cs taken.0 taken.1 us same ends is e
    ∙ sym (ap (λ o. (begins "//" (d ∷ cs) && (length (past is_in_line (d ∷ cs)) == 0)) || option_map_or (λ (t : Taken). runs_out fuel (dots_behind dots t.0) t.1) o false) is)

token_end : (text : List ℕ) (fuel start dots d : ℕ) (cs : Chars) (ts : List RawToken) (o : Option Taken) → SameEnd text fuel → EndsAt text start (d ∷ cs) → token dots (d ∷ cs) ≡ o
    → tokens_from (suc fuel) start dots (d ∷ cs) ≡ Some ts → ends_in_line_comment text ts ≡ runs_out (suc fuel) dots (d ∷ cs)
token_end text fuel start dots d cs ts None same ends is e = let clash = sym (no_more fuel start dots d cs is) ∙ e in absurd (cc)
token_end text fuel start dots d cs ts (Some taken) same ends is e =
    tokens_end text fuel start dots d cs taken ts (tokens_from fuel (start + (size (d ∷ cs) - size taken.1)) (dots_behind dots taken.0) taken.1) same ends is refl
    (sym (one_more fuel start dots d cs taken.0 taken.1 is) ∙ e)

pub same_end : (text : List ℕ) (fuel : ℕ) → SameEnd text fuel
same_end text fuel start dots [] ts ends e = ap (ends_in_line_comment text) (sym (same_Some [] ts e))
same_end text zero start dots (d ∷ cs) ts ends e = absurd (cc)
same_end text (suc fuel) start dots (d ∷ cs) ts ends e = token_end text fuel start dots d cs ts (token dots (d ∷ cs)) (same_end text fuel) ends refl e
