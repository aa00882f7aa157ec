-- The tokens of two texts side by side at a bracket, a comma or `;`.
use Rattle.std.proofs.Common.{◌≡◌, ℕ, suc, zero, ◌+◌, ◌-◌, ◌≤◌, Bool, true, false, ◌&&◌, List, [], ◌∷◌, ◌++◌, length, map, refl, sym, ap, subst, ◌∙◌, arith, length-append, lit<}
use Rattle.std.specs.Prelude.{Option, Some, None, cond, nat_lt}
use Rattle.std.specs.Option.{option_map}
use Rattle.std.specs.Str.{chars, chars_after, IsUtf8, IsAscii}
use Rattle.std.proofs.lemmas.Option.{same_Some}
use Rattle.std.proofs.lemmas.Str.{chars-append, encodes-chars, IsUtf8-append, IsUtf8-from_ascii}
use Rattle.ssr_syntax_lex.specs.Cursor.{Chars, begins}
use Rattle.ssr_syntax_lex.specs.Tokens.{size, range_of, in_front, tokens_from, tokens, token_text}
use Rattle.ssr_syntax_lex.specs.Seams.{is_seam, is_seam_kind, begins_at_seam, ends_at_seam, range_moved, moved, all_in_front, side_by_side, ends_in_line_comment, has_token_at}
use Rattle.ssr_syntax_kinds.specs.Kinds.{same_kind}
use Rattle.ssr_syntax_kinds.proofs.Shared.{same_kind-equal}
use Rattle.ssr_syntax_kinds.specs.declared.kinds.SyntaxKind.{SyntaxKind}
use Rattle.ssr_syntax_kinds.specs.declared.kinds.SyntaxKind.TheVariants as k
use Rattle.ssr_syntax_kinds.specs.declared.range.TextRange.{TextRange}
use Rattle.ssr_syntax_lex.specs.declared.tokens.RawToken.{RawToken}
use Rattle.ssr_syntax_lex.proofs.Tiling.{EndsAt}
use Rattle.ssr_syntax_lex.proofs.SeamScans.{seam_small, seam_ascii}
use Rattle.ssr_syntax_lex.proofs.SeamRuns.{any_fuel, shifted, seam_first, kind_at, kind_at-seam, AreBehind, are_behind, runs_out, goes_on}
use Rattle.ssr_syntax_lex.proofs.SeamLines.{same_end}
use Rattle.ssr_syntax_lex.proofs.SeamCuts.{CutAt, cut, reaches}

-- a byte of ASCII is its character
chars_small : (c : ℕ) (b : List ℕ) → nat_lt c 128 ≡ true → chars (c ∷ b) ≡ c ∷ chars b
unfolding chars
chars_small c [] small =
    ap (λ x. chars_after (cond x 0 (cond (nat_lt c 224) 1 (cond (nat_lt c 240) 2 3))) (cond x c (cond (nat_lt c 224) (c - 192) (cond (nat_lt c 240) (c - 224) (c - 240)))) []) small
chars_small c (d ∷ b) small =
    ap (λ x. chars_after (cond x 0 (cond (nat_lt c 224) 1 (cond (nat_lt c 240) 2 3))) (cond x c (cond (nat_lt c 224) (c - 192) (cond (nat_lt c 240) (c - 224) (c - 240)))) (d ∷ b)) small

chars_seam : (a b : List ℕ) (c : ℕ) → IsUtf8 a → is_seam c ≡ true → chars (a ++ c ∷ b) ≡ chars a ++ c ∷ chars b
chars_seam a b c utf8 seam = chars-append a (c ∷ b) utf8 ∙ ap (λ (xs : Chars). chars a ++ xs) (chars_small c b (seam_small c seam))

chars_size : (a : List ℕ) → IsUtf8 a → size (chars a) ≡ length a
chars_size a utf8 = ap length (encodes-chars a utf8)

whole_text : (a : List ℕ) → IsUtf8 a → EndsAt a 0 (chars a)
whole_text a utf8 = record {
  front = [];
  parts = sym (encodes-chars a utf8);
  place = refl;
  utf8 = subst IsUtf8 (sym (encodes-chars a utf8)) utf8;
}

-- a text with no comment to the end of a line at its end
closed_text : (a : List ℕ) (ts : List RawToken) (fuel : ℕ) → IsUtf8 a → tokens_from fuel 0 0 (chars a) ≡ Some ts → ends_in_line_comment a ts ≡ false → runs_out fuel 0 (chars a) ≡ false
closed_text a ts fuel utf8 e inside = sym (same_end a fuel 0 0 (chars a) ts (whole_text a utf8) e) ∙ inside

pub before_seam : (a b : List ℕ) (c : ℕ) (ts us : List RawToken) → IsUtf8 a → is_seam c ≡ true → tokens a ≡ Some ts → tokens (c ∷ b) ≡ Some us → ends_in_line_comment a ts ≡ false → tokens (a ++ c ∷ b) ≡ Some (side_by_side (length a) ts us)
unfolding tokens
before_seam a b c ts us utf8 seam e f inside =
    let cs : Chars = chars a in
    let bs : Chars = chars b in
    let place : length a ≡ 0 + size cs = omega (arith, chars_size a utf8) in
    let first : tokens_from (length (c ∷ bs)) 0 0 (c ∷ bs) ≡ Some us =
    ap (λ (xs : Chars). tokens_from (length xs) 0 0 xs) (sym (chars_small c b (seam_small c seam))) ∙ f in
    let behind : AreBehind c bs (0 + size cs) (map (moved (length a)) us) =
    subst (λ n. AreBehind c bs n (map (moved (length a)) us)) place (are_behind c bs (length a) us seam first) in
    ap (λ (xs : Chars). tokens_from (length xs) 0 0 xs) (chars_seam a b c utf8 seam)
    ∙ goes_on c bs seam (length cs) (length (cs ++ c ∷ bs)) 0 0 cs ts (map (moved (length a)) us) (omega arith) e (closed_text a ts (length cs) utf8 e inside) behind

seam_utf8 : (c : ℕ) → is_seam c ≡ true → IsUtf8 (c ∷ [])
seam_utf8 c seam = IsUtf8-from_ascii (c ∷ []) one
  where
    one : IsAscii (c ∷ [])
    one zero = seam_ascii c seam
    one (suc i) = lit< tt

one_in_front : (ts us : List RawToken) (kind : SyntaxKind) (range : TextRange) → all_in_front (all_in_front ts (in_front kind range [])) us ≡ all_in_front ts (in_front kind range us)
one_in_front [] us kind range = refl
one_in_front (t ∷ ts) us kind range = ap (in_front t.kind t.range) (one_in_front ts us kind range)

-- a seam and what follows it
seam_and_more : (c : ℕ) (bs : Chars) (place : ℕ) (us : List RawToken) (seam : is_seam c ≡ true) → tokens_from (length bs) 0 0 bs ≡ Some us → AreBehind c bs place (in_front (kind_at c seam) (range_of place 1) (map (moved (place + 1)) us))
seam_and_more c bs place us seam f zero dots enough = absurd (omega arith)
seam_and_more c bs place us seam f (suc fuel) dots enough =
    let here : place + 1 ≡ (place + 1) + 0 = omega arith in
    seam_first fuel place dots c bs seam
    ∙ ap (option_map (in_front (kind_at c seam) (range_of place 1)))
    (any_fuel fuel (length bs) (place + 1) 0 bs (omega arith) (omega arith)
    ∙ ap (λ s. tokens_from (length bs) s 0 bs) here
    ∙ shifted (place + 1) (length bs) 0 0 bs
    ∙ ap (option_map (map (moved (place + 1)))) f)

some_list : (ts us : List RawToken) → ts ≡ us → ◌≡◌ {A = Option (List RawToken)} (Some ts) (Some us)
some_list ts us e = ap (λ (xs : List RawToken). let o : Option (List RawToken) = Some xs in o) e

-- the tokens of the seam alone
alone : (c : ℕ) (place : ℕ) (us : List RawToken) (seam : is_seam c ≡ true) → AreBehind c [] place us → in_front (kind_at c seam) (range_of place 1) [] ≡ us
alone c place us seam behind = same_Some _ _ (sym (seam_first 0 place 0 c [] seam) ∙ behind 1 0 (omega arith))

-- behind a cut, with other characters behind the seam
other_behind : (c : ℕ) (bs cs : Chars) (fuel place : ℕ) (ts us : List RawToken) (seam : is_seam c ≡ true) → tokens_from (length bs) 0 0 bs ≡ Some us → place ≡ size cs → CutAt c [] fuel 0 0 cs ts
    → tokens_from (length (cs ++ c ∷ bs)) 0 0 (cs ++ c ∷ bs) ≡ Some (all_in_front ts (map (moved (place + 1)) us))
other_behind c bs cs fuel place ts us seam f there cut =
    let kind : SyntaxKind = kind_at c seam in
    let more : List RawToken = map (moved (place + 1)) us in
    let here : place ≡ 0 + size cs = omega (arith, there) in
    let behind : AreBehind c bs (0 + size cs) (in_front kind (range_of place 1) more) =
    subst (λ n. AreBehind c bs n (in_front kind (range_of place 1) more)) here (seam_and_more c bs place us seam f) in
    let last : in_front kind (range_of place 1) [] ≡ cut.us = alone c place cut.us seam (subst (λ n. AreBehind c [] n cut.us) (sym here) cut.behind) in
    goes_on c bs seam fuel (length (cs ++ c ∷ bs)) 0 0 cs cut.ts (in_front kind (range_of place 1) more) (omega arith) cut.front cut.inside behind
    ∙ some_list _ _
    (sym (one_in_front cut.ts more kind (range_of place 1))
    ∙ ap (λ (xs : List RawToken). all_in_front (all_in_front cut.ts xs) more) last
    ∙ ap (λ (xs : List RawToken). all_in_front xs more) (sym cut.whole))

-- ** The kinds at a seam.
begins_so : (kind : SyntaxKind) (range : TextRange) (o : Option (List RawToken)) (us : List RawToken) → is_seam_kind kind ≡ true → option_map (in_front kind range) o ≡ Some us → begins_at_seam us ≡ true
begins_so kind range None us seam e = absurd (cc)
begins_so kind range (Some vs) us seam e = ap begins_at_seam (sym (same_Some (in_front kind range vs) us e)) ∙ seam

pub seam_begins : (b : List ℕ) (c : ℕ) (us : List RawToken) → is_seam c ≡ true → tokens (c ∷ b) ≡ Some us → begins_at_seam us ≡ true
unfolding tokens
seam_begins b c us seam f =
    let bs : Chars = chars b in
    let first : tokens_from (length (c ∷ bs)) 0 0 (c ∷ bs) ≡ Some us =
    ap (λ (xs : Chars). tokens_from (length xs) 0 0 xs) (sym (chars_small c b (seam_small c seam))) ∙ f in
    let enough : tokens_from (suc (length bs)) 0 0 (c ∷ bs) ≡ Some us =
    any_fuel (suc (length bs)) (length (c ∷ bs)) 0 0 (c ∷ bs) (omega arith) (omega arith) ∙ first in
    begins_so (kind_at c seam) (range_of 0 1) (tokens_from (length bs) (0 + 1) 0 bs) us (kind_at-seam c seam)
    (sym (seam_first (length bs) 0 0 c bs seam) ∙ enough)

ends_so : (ts : List RawToken) (kind : SyntaxKind) (range : TextRange) → is_seam_kind kind ≡ true → ends_at_seam (all_in_front ts (in_front kind range [])) ≡ true
ends_so [] kind range seam = seam
ends_so (t ∷ []) kind range seam = seam
ends_so (t ∷ u ∷ ts) kind range seam = ends_so (u ∷ ts) kind range seam

-- a text that ends with a seam, cut in front of it
cut_last : (a : List ℕ) (c : ℕ) (ts : List RawToken) (seam : is_seam c ≡ true) → IsUtf8 a → tokens (a ++ c ∷ []) ≡ Some ts → ends_in_line_comment (a ++ c ∷ []) ts ≡ false
    → CutAt c [] (length (chars a ++ c ∷ [])) 0 0 (chars a) ts
unfolding tokens chars
cut_last a c ts seam utf8 e inside =
    let cs : Chars = chars a in
    let fuel : ℕ = length (cs ++ c ∷ []) in
    let same : chars (a ++ c ∷ []) ≡ cs ++ c ∷ [] = chars_seam a [] c utf8 seam in
    let here : tokens_from fuel 0 0 (cs ++ c ∷ []) ≡ Some ts = ap (λ (xs : Chars). tokens_from (length xs) 0 0 xs) (sym same) ∙ e in
    let closed : runs_out fuel 0 (cs ++ c ∷ []) ≡ false =
    ap (λ (xs : Chars). runs_out (length xs) 0 xs) (sym same)
    ∙ closed_text (a ++ c ∷ []) ts (length (chars (a ++ c ∷ []))) (IsUtf8-append a (c ∷ []) utf8 (seam_utf8 c seam)) e inside in
    cut c [] seam fuel 0 0 cs ts (omega arith) here (reaches c seam fuel 0 0 cs ts here closed)

pub seam_ends : (a : List ℕ) (c : ℕ) (ts : List RawToken) → IsUtf8 a → is_seam c ≡ true → tokens (a ++ c ∷ []) ≡ Some ts → ends_in_line_comment (a ++ c ∷ []) ts ≡ false → ends_at_seam ts ≡ true
seam_ends a c ts utf8 seam e inside =
    let there = cut_last a c ts seam utf8 e inside in
    let place : ℕ = 0 + size (chars a) in
    ap ends_at_seam (there.whole ∙ ap (all_in_front there.ts) (sym (alone c place there.us seam there.behind)))
    ∙ ends_so there.ts (kind_at c seam) (range_of place 1) (kind_at-seam c seam)

pub behind_seam : (a b : List ℕ) (c : ℕ) (ts us : List RawToken) → IsUtf8 a → is_seam c ≡ true → tokens (a ++ c ∷ []) ≡ Some ts → tokens b ≡ Some us → ends_in_line_comment (a ++ c ∷ []) ts ≡ false → tokens (a ++ c ∷ b) ≡ Some (side_by_side (length a + 1) ts us)
unfolding tokens
behind_seam a b c ts us utf8 seam e f inside =
    ap (λ (xs : Chars). tokens_from (length xs) 0 0 xs) (chars_seam a b c utf8 seam)
    ∙ other_behind c (chars b) (chars a) (length (chars a ++ c ∷ [])) (length a) ts us seam f (sym (chars_size a utf8)) (cut_last a c ts seam utf8 e inside)

moved_back : (n : ℕ) (o : Option (List RawToken)) (us : List RawToken) → option_map (map (moved n)) o ≡ Some us → (vs : List RawToken) × (o ≡ Some vs) × (us ≡ map (moved n) vs)
moved_back n None us e = absurd (cc)
moved_back n (Some vs) us e = (vs, refl, sym (same_Some _ _ e))

pub cut_before_seam : (a b : List ℕ) (c : ℕ) (ws : List RawToken) → IsUtf8 a → is_seam c ≡ true → tokens (a ++ c ∷ b) ≡ Some ws → has_token_at (length a) ws ≡ true
    → (ts : List RawToken) × (us : List RawToken) × (tokens a ≡ Some ts) × (tokens (c ∷ b) ≡ Some us) × (ends_in_line_comment a ts ≡ false) × (ws ≡ side_by_side (length a) ts us)
unfolding tokens
cut_before_seam a b c ws utf8 seam e found =
    let cs : Chars = chars a in
    let bs : Chars = chars b in
    let fuel : ℕ = length (cs ++ c ∷ bs) in
    let place : length a ≡ 0 + size cs = omega (arith, chars_size a utf8) in
    let whole : tokens_from fuel 0 0 (cs ++ c ∷ bs) ≡ Some ws = ap (λ (xs : Chars). tokens_from (length xs) 0 0 xs) (sym (chars_seam a b c utf8 seam)) ∙ e in
    let cut_there : CutAt c bs fuel 0 0 cs ws = cut c bs seam fuel 0 0 cs ws (omega arith) whole (subst (λ n. has_token_at n ws ≡ true) place found) in
    let zero_more : length a ≡ length a + 0 = omega arith in
    let behind : tokens_from (length (c ∷ bs)) (length a + 0) 0 (c ∷ bs) ≡ Some cut_there.us =
    ap (λ n. tokens_from (length (c ∷ bs)) n 0 (c ∷ bs)) (sym zero_more ∙ place) ∙ cut_there.behind (length (c ∷ bs)) 0 (omega arith) in
    let back = moved_back (length a) (tokens_from (length (c ∷ bs)) 0 0 (c ∷ bs)) cut_there.us (sym (shifted (length a) (length (c ∷ bs)) 0 0 (c ∷ bs)) ∙ behind) in
    let enough : length cs ≤ fuel = omega (arith, length-append cs (c ∷ bs)) in (
      cut_there.ts,
      back.0,
      any_fuel (length cs) fuel 0 0 cs (omega arith) enough ∙ cut_there.front,
      ap (λ (xs : Chars). tokens_from (length xs) 0 0 xs) (chars_small c b (seam_small c seam)) ∙ back.1,
      same_end a fuel 0 0 cs cut_there.ts (whole_text a utf8) cut_there.front ∙ cut_there.inside,
      cut_there.whole ∙ ap (all_in_front cut_there.ts) back.2,
    )

-- ** Behind the seam.
no_comment : (kind : SyntaxKind) (x y : Bool) → is_seam_kind kind ≡ true → same_kind kind k.COMMENT ≡ x → (x && y) ≡ false
no_comment kind true y seam e = let clash : false ≡ true = sym (ap is_seam_kind (same_kind-equal kind k.COMMENT e)) ∙ seam in absurd (cc)
no_comment kind false y seam e = refl

-- what ends with a seam doesn't end with a comment
no_line : (text : List ℕ) (ts : List RawToken) → ends_at_seam ts ≡ true → ends_in_line_comment text ts ≡ false
no_line text [] seam = refl
no_line text (t ∷ []) seam = no_comment t.kind (same_kind t.kind k.COMMENT) (begins "//" (token_text text t)) seam refl
no_line text (t ∷ u ∷ ts) seam = no_line text (u ∷ ts) seam

seam_alone : (c : ℕ) (seam : is_seam c ≡ true) → tokens (c ∷ []) ≡ Some (in_front (kind_at c seam) (range_of 0 1) [])
unfolding tokens chars
seam_alone c seam =
    ap (λ (xs : Chars). tokens_from (length xs) 0 0 xs) (chars_small c [] (seam_small c seam))
    ∙ any_fuel (length (c ∷ [])) 1 0 0 (c ∷ []) (omega arith) (omega arith)
    ∙ seam_first 0 0 0 c [] seam

some_inside : (kind : SyntaxKind) (range : TextRange) (o : Option (List RawToken)) (us : List RawToken) → option_map (in_front kind range) o ≡ Some us → (vs : List RawToken) × (o ≡ Some vs)
some_inside kind range None us e = absurd (cc)
some_inside kind range (Some vs) us e = (vs, refl)

seam_rest : (b : List ℕ) (c : ℕ) (us : List RawToken) → is_seam c ≡ true → tokens (c ∷ b) ≡ Some us → (vs : List RawToken) × (tokens b ≡ Some vs)
unfolding tokens
seam_rest b c us seam f =
    let bs : Chars = chars b in
    let whole : tokens_from (suc (length bs)) 0 0 (c ∷ bs) ≡ Some us =
    any_fuel (suc (length bs)) (length (c ∷ bs)) 0 0 (c ∷ bs) (omega arith) (omega arith)
    ∙ ap (λ (xs : Chars). tokens_from (length xs) 0 0 xs) (sym (chars_small c b (seam_small c seam))) ∙ f in
    let inside = some_inside (kind_at c seam) (range_of 0 1) (tokens_from (length bs) 1 0 bs) us (sym (seam_first (length bs) 0 0 c bs seam) ∙ whole) in
    let back = moved_back 1 (tokens_from (length bs) 0 0 bs) inside.0 (sym (shifted 1 (length bs) 0 0 bs) ∙ inside.1) in
    (back.0, back.1)

pub cut_behind_seam : (a b : List ℕ) (c : ℕ) (ws : List RawToken) → IsUtf8 a → is_seam c ≡ true → tokens (a ++ c ∷ b) ≡ Some ws → has_token_at (length a) ws ≡ true
    → (ts : List RawToken) × (us : List RawToken) × (tokens (a ++ c ∷ []) ≡ Some ts) × (tokens b ≡ Some us) × (ends_in_line_comment (a ++ c ∷ []) ts ≡ false) × (ws ≡ side_by_side (length a + 1) ts us)
cut_behind_seam a b c ws utf8 seam e found =
    let there = cut_before_seam a b c ws utf8 seam e found in
    let rest = seam_rest b c there.1 seam there.3 in
    let one : List RawToken = in_front (kind_at c seam) (range_of 0 1) [] in
    let front : List RawToken = side_by_side (length a) there.0 one in
    let cut_front : tokens (a ++ c ∷ []) ≡ Some front = before_seam a [] c there.0 one utf8 seam there.2 (seam_alone c seam) there.4 in
    let closed : ends_in_line_comment (a ++ c ∷ []) front ≡ false =
    no_line (a ++ c ∷ []) front (ends_so there.0 (kind_at c seam) (range_moved (length a) (range_of 0 1)) (kind_at-seam c seam)) in (
      front,
      rest.0,
      cut_front,
      rest.1,
      closed,
      same_Some ws (side_by_side (length a + 1) front rest.0) (sym e ∙ behind_seam a b c front rest.0 utf8 seam cut_front rest.1 closed),
    )
