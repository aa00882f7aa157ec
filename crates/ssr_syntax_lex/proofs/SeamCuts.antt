-- A text is cut at a bracket, a comma or `;` where one of its tokens begins there; and one does where no comment to the end
-- of a line takes the last character.
use Rattle.std.proofs.Common.{◌≡◌, ◌⊎◌, inl, inr, ℕ, suc, zero, ◌+◌, ◌-◌, ◌<◌, ◌≤◌, ◌==◌, Bool, true, false, not, ◌&&◌, ◌||◌, List, [], ◌∷◌, ◌++◌, if◌then◌else◌, length, drop, refl, sym, ap, subst, ◌∙◌, arith, length-append, eqb-true, ne_eqb}
use Rattle.std.specs.Prelude.{Option, Some, None}
use Rattle.std.specs.Option.{option_map, option_map_or}
use Rattle.std.proofs.Math.Seq.{drop-append_seam, drop-append-add}
use Rattle.std.proofs.Math.Bool.{or-true}
use Rattle.std.proofs.lemmas.Bool.{and_parts, and_right, eq-eqb}
use Rattle.std.proofs.lemmas.Option.{same_Some}
use Rattle.ssr_syntax_lex.specs.Cursor.{Chars, begins, past}
use Rattle.ssr_syntax_lex.specs.Characters.{◌∈◌, the_char, is_in_line}
use Rattle.ssr_syntax_lex.specs.Raw.{Taken, token}
use Rattle.ssr_syntax_lex.specs.Tokens.{size, range_of, in_front, dots_behind, tokens_from}
use Rattle.ssr_syntax_lex.specs.Seams.{is_seam, all_in_front, has_token_at}
use Rattle.ssr_syntax_kinds.specs.declared.kinds.SyntaxKind.{SyntaxKind}
use Rattle.ssr_syntax_kinds.specs.declared.kinds.SyntaxKind.TheVariants as k
use Rattle.ssr_syntax_lex.specs.declared.tokens.RawToken.{RawToken}
use Rattle.ssr_syntax_lex.proofs.Cutting.{one_more}
use Rattle.ssr_syntax_lex.proofs.Fronts.{Follows, follows_itself, follows_drop, follows_past, token_leaves, shorter}
use Rattle.ssr_syntax_lex.proofs.SeamScans.{fails, so_true, follows_le}
use Rattle.ssr_syntax_lex.proofs.SeamTests.{pair_on}
use Rattle.ssr_syntax_lex.proofs.SeamToken.{Joins, line_token, token_joins}
use Rattle.ssr_syntax_lex.proofs.SeamRuns.{no_more, rest_shorter, any_fuel, any_dots, seam_first, kind_at, AreBehind, runs_out, or_false, ends_inside, size_append, same_count}

-- ** No token begins before the characters do.
or_true : (x y : Bool) → (x || y) ≡ true → (x ≡ true) ⊎ (y ≡ true)
or_true true y e = inl refl
or_true false y e = inr e

abbrev StartsFrom : ℕ → Type 0
StartsFrom fuel = (start dots n : ℕ) (cs : Chars) (ts : List RawToken) → tokens_from fuel start dots cs ≡ Some ts → has_token_at n ts ≡ true → start ≤ n

either_at : (start count n : ℕ) (us : List RawToken) → (has_token_at n us ≡ true → start + count ≤ n) → (start == n) ≡ true ⊎ (has_token_at n us ≡ true) → start ≤ n
either_at start count n us rest (inl here) = let same = eqb-true start n here in omega (arith, same)
either_at start count n us rest (inr there) = let more = rest there in omega (arith, more)

starts_rest : (fuel start count dots n : ℕ) (rest : Chars) (kind : SyntaxKind) (ts : List RawToken) (o : Option (List RawToken)) → StartsFrom fuel → tokens_from fuel (start + count) dots rest ≡ o
    → option_map (in_front kind (range_of start count)) o ≡ Some ts → has_token_at n ts ≡ true → start ≤ n
starts_rest fuel start count dots n rest kind ts None starts is e there = absurd (cc)
starts_rest fuel start count dots n rest kind ts (Some us) starts is e there =
    either_at start count n us (starts (start + count) dots n rest us is)
    (or_true _ _ (subst (λ (xs : List RawToken). has_token_at n xs ≡ true) (sym (same_Some _ _ e)) there))

starts_token : (fuel start dots n d : ℕ) (cs : Chars) (ts : List RawToken) (o : Option Taken) → StartsFrom fuel → token dots (d ∷ cs) ≡ o → tokens_from (suc fuel) start dots (d ∷ cs) ≡ Some ts → has_token_at n ts ≡ true → start ≤ n
starts_token fuel start dots n d cs ts None starts is e there = let clash = sym (no_more fuel start dots d cs is) ∙ e in absurd (cc)
starts_token fuel start dots n d cs ts (Some taken) starts is e there =
    let count : ℕ = size (d ∷ cs) - size taken.1 in
    starts_rest fuel start count (dots_behind dots taken.0) n taken.1 taken.0 ts (tokens_from fuel (start + count) (dots_behind dots taken.0) taken.1) starts refl
    (sym (one_more fuel start dots d cs taken.0 taken.1 is) ∙ e) there

starts_from : (fuel : ℕ) → StartsFrom fuel
starts_from fuel start dots n [] ts e there =
    let clash : false ≡ true = ap (has_token_at n) (same_Some [] ts e) ∙ there in absurd (cc)
starts_from zero start dots n (d ∷ cs) ts e there = absurd (cc)
starts_from (suc fuel) start dots n (d ∷ cs) ts e there = starts_token fuel start dots n d cs ts (token dots (d ∷ cs)) (starts_from fuel) refl e there

-- ** What lies behind a seam is shorter than the seam and what follows it.
behind_size : (c : ℕ) (b cs rest : Chars) → Follows (cs ++ c ∷ b) rest → length rest ≤ length b → size rest < size (c ∷ b)
behind_size c b cs rest (taken, e) less =
    let m : ℕ = length taken - suc (length cs) in
    let lengths : length cs + suc (length b) ≡ length taken + length rest =
    omega (arith, ap length e, length-append cs (c ∷ b), length-append taken rest) in
    let place : length taken ≡ length cs + suc m = omega (arith, lengths, less) in
    let same : rest ≡ drop m b =
    sym (drop-append_seam taken rest) ∙ ap (drop (length taken)) (sym e) ∙ ap (λ n. drop n (cs ++ c ∷ b)) place ∙ drop-append-add cs (c ∷ b) (suc m) in
    subst (λ (xs : Chars). size xs < size (c ∷ b)) (sym same) (shorter c b (drop m b) (follows_drop m b)).1

some_bytes : (d : ℕ) (cs : Chars) → size cs < size (d ∷ cs)
some_bytes d cs = (shorter d cs cs (follows_itself cs)).1

-- the characters are cut in front of a seam, with what follows it
pub record CutAt (c : ℕ) (b : Chars) (fuel start dots : ℕ) (cs : Chars) (ws : List RawToken) : Type 0 where
  pub ts : List RawToken
  pub us : List RawToken
  pub front : tokens_from fuel start dots cs ≡ Some ts
  pub inside : runs_out fuel dots cs ≡ false
  pub behind : AreBehind c b (start + size cs) us
  pub whole : ws ≡ all_in_front ts us

abbrev Cuts : ℕ → Chars → ℕ → Type 0
Cuts c b fuel = (start dots : ℕ) (cs : Chars) (ws : List RawToken) → length (cs ++ c ∷ b) ≤ fuel
    → tokens_from fuel start dots (cs ++ c ∷ b) ≡ Some ws → has_token_at (start + size cs) ws ≡ true → CutAt c b fuel start dots cs ws

-- the first token isn't the one that begins behind it
not_first : (start n : ℕ) (us : List RawToken) → start < n → ((start == n) || has_token_at n us) ≡ true → has_token_at n us ≡ true
not_first start n us less e =
    sym (ap (λ x. x || has_token_at n us) (ne_eqb start n (λ same. omega (arith, same, less)))) ∙ e

module _ (c : ℕ) (b : Chars) (seam : is_seam c ≡ true) where
  far_rest : (fuel start count dots n : ℕ) (rest : Chars) (kind : SyntaxKind) (ws : List RawToken) (o : Option (List RawToken)) → start < n → n < start + count → tokens_from fuel (start + count) dots rest ≡ o
      → option_map (in_front kind (range_of start count)) o ≡ Some ws → has_token_at n ws ≡ true → ⊥
  far_rest fuel start count dots n rest kind ws None after before is e there = absurd (cc)
  far_rest fuel start count dots n rest kind ws (Some us) after before is e there =
      let inner : has_token_at n us ≡ true = not_first start n us after (subst (λ (xs : List RawToken). has_token_at n xs ≡ true) (sym (same_Some _ _ e)) there) in
      let later : start + count ≤ n = starts_from fuel (start + count) dots n rest us is inner in
      omega (arith, later, before)

  -- where the first token goes beyond the seam, none begins at it
  too_far : (fuel start dots d : ℕ) (cs : Chars) (taken : Taken) (ws : List RawToken) → token dots (d ∷ (cs ++ c ∷ b)) ≡ Some taken → length taken.1 ≤ length b
      → tokens_from (suc fuel) start dots (d ∷ (cs ++ c ∷ b)) ≡ Some ws → has_token_at (start + size (d ∷ cs)) ws ≡ true → ⊥
  too_far fuel start dots d cs taken ws is less e there =
      let count : ℕ = size (d ∷ (cs ++ c ∷ b)) - size taken.1 in
      let small : size taken.1 < size (c ∷ b) = behind_size c b cs taken.1 (token_leaves dots d (cs ++ c ∷ b) taken is) less in
      let after : start < start + size (d ∷ cs) = omega (arith, some_bytes d cs) in
      let before : start + size (d ∷ cs) < start + count = omega (arith, small, size_append (d ∷ cs) (c ∷ b)) in
      far_rest fuel start count (dots_behind dots taken.0) (start + size (d ∷ cs)) taken.1 taken.0 ws
      (tokens_from fuel (start + count) (dots_behind dots taken.0) taken.1) after before refl
      (sym (one_more fuel start dots d (cs ++ c ∷ b) taken.0 taken.1 is) ∙ e) there

  -- the first token in front of what is cut
  cut_longer : (fuel start dots d : ℕ) (cs : Chars) (ws vs : List RawToken) (taken : Taken) → token dots (d ∷ cs) ≡ Some taken
      → (begins "//" (d ∷ cs) && (length (past is_in_line (d ∷ cs)) == 0)) ≡ false
      → in_front taken.0 (range_of start (size (d ∷ cs) - size taken.1)) vs ≡ ws
      → CutAt c b fuel (start + (size (d ∷ cs) - size taken.1)) (dots_behind dots taken.0) taken.1 vs
      → CutAt c b (suc fuel) start dots (d ∷ cs) ws
  cut_longer fuel start dots d cs ws vs taken is line same there =
      let count : ℕ = size (d ∷ cs) - size taken.1 in
      let less = rest_shorter dots d cs taken is in
      let place : start + size (d ∷ cs) ≡ (start + count) + size taken.1 = omega (arith, less.1) in
      record {
        ts = in_front taken.0 (range_of start count) there.ts;
        us = there.us;
        front = one_more fuel start dots d cs taken.0 taken.1 is ∙ ap (option_map (in_front taken.0 (range_of start count))) there.front;
        inside =
            ap (λ x. x || option_map_or (λ (t : Taken). runs_out fuel (dots_behind dots t.0) t.1) (token dots (d ∷ cs)) false) line
            ∙ ap (λ o. option_map_or (λ (t : Taken). runs_out fuel (dots_behind dots t.0) t.1) o false) is
            ∙ there.inside;
        behind = λ f n h. ap (λ s. tokens_from f s n (c ∷ b)) place ∙ there.behind f n h;
        whole = sym same ∙ ap (in_front taken.0 (range_of start count)) there.whole;
      }

  cut_found : (fuel start dots d : ℕ) (cs : Chars) (ws vs : List RawToken) (taken : Taken) → Cuts c b fuel → length (cs ++ c ∷ b) ≤ fuel → token dots (d ∷ cs) ≡ Some taken
      → (begins "//" (d ∷ cs) && (length (past is_in_line (d ∷ cs)) == 0)) ≡ false
      → tokens_from fuel (start + (size (d ∷ cs) - size taken.1)) (dots_behind dots taken.0) (taken.1 ++ c ∷ b) ≡ Some vs
      → in_front taken.0 (range_of start (size (d ∷ cs) - size taken.1)) vs ≡ ws → has_token_at (start + size (d ∷ cs)) ws ≡ true
      → CutAt c b (suc fuel) start dots (d ∷ cs) ws
  cut_found fuel start dots d cs ws vs taken cuts enough is line e same there =
      let less = rest_shorter dots d cs taken is in
      let count : ℕ = size (d ∷ cs) - size taken.1 in
      let place : start + size (d ∷ cs) ≡ (start + count) + size taken.1 = omega (arith, less.1) in
      let fits : length (taken.1 ++ c ∷ b) ≤ fuel = omega (arith, less.0, enough, length-append taken.1 (c ∷ b), length-append cs (c ∷ b)) in
      let after : start < start + size (d ∷ cs) = omega (arith, some_bytes d cs) in
      let inner : has_token_at (start + size (d ∷ cs)) vs ≡ true =
      not_first start (start + size (d ∷ cs)) vs after (subst (λ (xs : List RawToken). has_token_at (start + size (d ∷ cs)) xs ≡ true) (sym same) there) in
      cut_longer fuel start dots d cs ws vs taken is line same
      (cuts (start + count) (dots_behind dots taken.0) taken.1 vs fits e (subst (λ n. has_token_at n vs ≡ true) place inner))

  cut_rest : (fuel start dots d : ℕ) (cs : Chars) (ws : List RawToken) (taken : Taken) (o : Option (List RawToken)) → Cuts c b fuel → length (cs ++ c ∷ b) ≤ fuel → token dots (d ∷ cs) ≡ Some taken
      → (begins "//" (d ∷ cs) && (length (past is_in_line (d ∷ cs)) == 0)) ≡ false
      → tokens_from fuel (start + (size (d ∷ cs) - size taken.1)) (dots_behind dots taken.0) (taken.1 ++ c ∷ b) ≡ o
      → option_map (in_front taken.0 (range_of start (size (d ∷ cs) - size taken.1))) o ≡ Some ws → has_token_at (start + size (d ∷ cs)) ws ≡ true
      → CutAt c b (suc fuel) start dots (d ∷ cs) ws
  cut_rest fuel start dots d cs ws taken None cuts enough is line rest e there = absurd (cc)
  cut_rest fuel start dots d cs ws taken (Some vs) cuts enough is line rest e there =
      cut_found fuel start dots d cs ws vs taken cuts enough is line rest (same_Some _ _ e) there

  cut_joined : (fuel start dots d : ℕ) (cs : Chars) (ws : List RawToken) (longer : Taken) (o : Option Taken) → Cuts c b fuel → length (cs ++ c ∷ b) ≤ fuel → token dots (d ∷ cs) ≡ o
      → token dots (d ∷ (cs ++ c ∷ b)) ≡ Some longer → Joins c b o (Some longer) → (begins "//" (d ∷ cs) && (length (past is_in_line (d ∷ cs)) == 0)) ≡ false
      → tokens_from (suc fuel) start dots (d ∷ (cs ++ c ∷ b)) ≡ Some ws → has_token_at (start + size (d ∷ cs)) ws ≡ true
      → CutAt c b (suc fuel) start dots (d ∷ cs) ws
  cut_joined fuel start dots d cs ws longer None cuts enough is there joins line e found =
      let short = joins longer refl in absurd (too_far fuel start dots d cs longer ws there (omega (arith, short)) e found)
  cut_joined fuel start dots d cs ws longer (Some taken) cuts enough is there joins line e found =
      let count : ℕ = size (d ∷ cs) - size taken.1 in
      let step = one_more fuel start dots d (cs ++ c ∷ b) taken.0 (taken.1 ++ c ∷ b) (there ∙ joins) in
      let further = ap (λ n. option_map (in_front taken.0 (range_of start n)) (tokens_from fuel (start + n) (dots_behind dots taken.0) (taken.1 ++ c ∷ b))) (same_count d cs taken.1 (c ∷ b)) in
      cut_rest fuel start dots d cs ws taken (tokens_from fuel (start + count) (dots_behind dots taken.0) (taken.1 ++ c ∷ b)) cuts enough is line refl
      (sym (step ∙ further) ∙ e) found

  -- a comment to the end of a line takes the seam along
  past_line : (cs : Chars) → (length (past is_in_line cs) == 0) ≡ true → past is_in_line (cs ++ c ∷ b) ≡ past is_in_line b
  past_line [] e = ap (λ x. if x then past is_in_line b else (c ∷ b)) (so_true (is_in_line c) (fails (λ d. not (is_in_line d)) refl c seam))
  past_line (d ∷ cs) e =
      (elim (is_in_line d) as (λ x. (length (if x then past is_in_line cs else (d ∷ cs)) == 0) ≡ true → (if x then past is_in_line (cs ++ c ∷ b) else (d ∷ (cs ++ c ∷ b))) ≡ past is_in_line b) [
        | true ↦ λ left. past_line cs left
        | false ↦ λ left. absurd (omega (arith, eqb-true (length (d ∷ cs)) 0 left))
      ]) e

  line_on : (cs : Chars) → begins "//" (cs ++ c ∷ b) ≡ begins "//" cs
  line_on cs = pair_on c b seam (the_char "/") (the_char "/") (fails (λ e. e ∈ "/") refl c seam) (fails (λ e. e ∈ "/") refl c seam) cs

  line_far : (dots : ℕ) (cs : Chars) (longer : Taken) → (begins "//" cs && (length (past is_in_line cs) == 0)) ≡ true → token dots (cs ++ c ∷ b) ≡ Some longer → length longer.1 ≤ length b
  line_far dots cs longer line there =
      let parts = and_parts _ _ line in
      let rest : past is_in_line b ≡ longer.1 =
      sym (past_line cs parts.1) ∙ ap (λ (t : Taken). t.1) (same_Some (k.COMMENT, past is_in_line (cs ++ c ∷ b)) longer (sym (line_token dots (cs ++ c ∷ b) (line_on cs ∙ parts.0)) ∙ there)) in
      subst (λ (xs : Chars). length xs ≤ length b) rest (follows_le b (past is_in_line b) (follows_past is_in_line b))

  cut_line : (fuel start dots d : ℕ) (cs : Chars) (ws : List RawToken) (longer : Taken) (line : Bool) → Cuts c b fuel → length (cs ++ c ∷ b) ≤ fuel → token dots (d ∷ (cs ++ c ∷ b)) ≡ Some longer
      → (begins "//" (d ∷ cs) && (length (past is_in_line (d ∷ cs)) == 0)) ≡ line
      → tokens_from (suc fuel) start dots (d ∷ (cs ++ c ∷ b)) ≡ Some ws → has_token_at (start + size (d ∷ cs)) ws ≡ true
      → CutAt c b (suc fuel) start dots (d ∷ cs) ws
  cut_line fuel start dots d cs ws longer true cuts enough there line e found =
      absurd (too_far fuel start dots d cs longer ws there (line_far dots (d ∷ cs) longer line there) e found)
  cut_line fuel start dots d cs ws longer false cuts enough there line e found =
      cut_joined fuel start dots d cs ws longer (token dots (d ∷ cs)) cuts enough refl there
      (subst (λ (o : Option Taken). Joins c b (token dots (d ∷ cs)) o) there (token_joins c b seam dots d cs (ends_inside (d ∷ cs) line)))
      line e found

  cut_token : (fuel start dots d : ℕ) (cs : Chars) (ws : List RawToken) (o : Option Taken) → Cuts c b fuel → length (cs ++ c ∷ b) ≤ fuel → token dots (d ∷ (cs ++ c ∷ b)) ≡ o
      → tokens_from (suc fuel) start dots (d ∷ (cs ++ c ∷ b)) ≡ Some ws → has_token_at (start + size (d ∷ cs)) ws ≡ true
      → CutAt c b (suc fuel) start dots (d ∷ cs) ws
  cut_token fuel start dots d cs ws None cuts enough there e found =
      let clash : None ≡ Some ws = sym (no_more fuel start dots d (cs ++ c ∷ b) there) ∙ e in absurd (cc)
  cut_token fuel start dots d cs ws (Some longer) cuts enough there e found =
      cut_line fuel start dots d cs ws longer (begins "//" (d ∷ cs) && (length (past is_in_line (d ∷ cs)) == 0)) cuts enough there refl e found

  pub cut : (fuel : ℕ) → Cuts c b fuel
  cut fuel start dots [] ws enough e found =
      let place : start + size [] ≡ start = omega arith in
      record {
        ts = [];
        us = ws;
        front = refl;
        inside = refl;
        behind = λ f n h.
            ap (λ s. tokens_from f s n (c ∷ b)) place ∙ any_dots f start n c b seam ∙ any_fuel f fuel start 0 (c ∷ b) h enough
            ∙ sym (any_dots fuel start dots c b seam) ∙ e;
        whole = refl;
      }
  cut zero start dots (d ∷ cs) ws enough e found = absurd (cc)
  cut (suc fuel) start dots (d ∷ cs) ws enough e found =
      cut_token fuel start dots d cs ws (token dots (d ∷ (cs ++ c ∷ b))) (cut fuel) (omega arith) refl e found

-- ** A seam at the end is a token of its own, unless a comment to the end of a line takes it.
module _ (c : ℕ) (seam : is_seam c ≡ true) where
  abbrev Reaches : ℕ → Type 0
  Reaches fuel = (start dots : ℕ) (cs : Chars) (ws : List RawToken) → tokens_from fuel start dots (cs ++ c ∷ []) ≡ Some ws → runs_out fuel dots (cs ++ c ∷ []) ≡ false → has_token_at (start + size cs) ws ≡ true

  -- such a comment would be one that ends inside
  ends_before : (cs : Chars) → (begins "//" (cs ++ c ∷ []) && (length (past is_in_line (cs ++ c ∷ [])) == 0)) ≡ false → begins "//" cs ≡ true → 0 < length (past is_in_line cs)
  ends_before cs goes line = left (length (past is_in_line cs) == 0) refl
    where
      left : (x : Bool) → (length (past is_in_line cs) == 0) ≡ x → 0 < length (past is_in_line cs)
      left true e =
          let some : 0 < length (past is_in_line (cs ++ c ∷ [])) = ends_inside (cs ++ c ∷ []) goes (line_on c [] seam cs ∙ line) in
          absurd (omega (arith, some, ap length (past_line c [] seam cs e)))
      left false e = ends_inside cs (ap (λ x. begins "//" cs && x) e ∙ and_right (begins "//" cs) false refl) line

  reach_rest : (fuel start dots d : ℕ) (cs : Chars) (ws : List RawToken) (taken : Taken) (o : Option (List RawToken)) → Reaches fuel → token dots (d ∷ cs) ≡ Some taken
      → tokens_from fuel (start + (size (d ∷ cs) - size taken.1)) (dots_behind dots taken.0) (taken.1 ++ c ∷ []) ≡ o
      → option_map (in_front taken.0 (range_of start (size (d ∷ cs) - size taken.1))) o ≡ Some ws
      → runs_out fuel (dots_behind dots taken.0) (taken.1 ++ c ∷ []) ≡ false → has_token_at (start + size (d ∷ cs)) ws ≡ true
  reach_rest fuel start dots d cs ws taken None reaches is rest e inside = absurd (cc)
  reach_rest fuel start dots d cs ws taken (Some vs) reaches is rest e inside =
      let less = rest_shorter dots d cs taken is in
      let count : ℕ = size (d ∷ cs) - size taken.1 in
      let place : (start + count) + size taken.1 ≡ start + size (d ∷ cs) = omega (arith, less.1) in
      let found : has_token_at (start + size (d ∷ cs)) vs ≡ true =
      subst (λ n. has_token_at n vs ≡ true) place (reaches (start + count) (dots_behind dots taken.0) taken.1 vs rest inside) in
      subst (λ (xs : List RawToken). has_token_at (start + size (d ∷ cs)) xs ≡ true) (same_Some _ _ e)
      (ap (λ x. (start == start + size (d ∷ cs)) || x) found ∙ or-true (start == start + size (d ∷ cs)))

  reach_joined : (fuel start dots d : ℕ) (cs : Chars) (ws : List RawToken) (longer : Taken) (o : Option Taken) → Reaches fuel → token dots (d ∷ cs) ≡ o → token dots (d ∷ (cs ++ c ∷ [])) ≡ Some longer
      → Joins c [] o (Some longer) → tokens_from (suc fuel) start dots (d ∷ (cs ++ c ∷ [])) ≡ Some ws
      → option_map_or (λ (t : Taken). runs_out fuel (dots_behind dots t.0) t.1) (token dots (d ∷ (cs ++ c ∷ []))) false ≡ false → has_token_at (start + size (d ∷ cs)) ws ≡ true
  reach_joined fuel start dots d cs ws longer None reaches is there joins e inside =
      let short : length longer.1 < length {A = ℕ} [] = joins longer refl in absurd (omega (arith, short))
  reach_joined fuel start dots d cs ws longer (Some taken) reaches is there joins e inside =
      let count : ℕ = size (d ∷ cs) - size taken.1 in
      let step = one_more fuel start dots d (cs ++ c ∷ []) taken.0 (taken.1 ++ c ∷ []) (there ∙ joins) in
      let further = ap (λ n. option_map (in_front taken.0 (range_of start n)) (tokens_from fuel (start + n) (dots_behind dots taken.0) (taken.1 ++ c ∷ []))) (same_count d cs taken.1 (c ∷ [])) in
      reach_rest fuel start dots d cs ws taken (tokens_from fuel (start + count) (dots_behind dots taken.0) (taken.1 ++ c ∷ [])) reaches is refl
      (sym (step ∙ further) ∙ e)
      (sym (ap (λ o. option_map_or (λ (t : Taken). runs_out fuel (dots_behind dots t.0) t.1) o false) (there ∙ joins)) ∙ inside)

  reach_token : (fuel start dots d : ℕ) (cs : Chars) (ws : List RawToken) (o : Option Taken) → Reaches fuel → token dots (d ∷ (cs ++ c ∷ [])) ≡ o
      → tokens_from (suc fuel) start dots (d ∷ (cs ++ c ∷ [])) ≡ Some ws → runs_out (suc fuel) dots (d ∷ (cs ++ c ∷ [])) ≡ false → has_token_at (start + size (d ∷ cs)) ws ≡ true
  reach_token fuel start dots d cs ws None reaches there e inside =
      let clash : None ≡ Some ws = sym (no_more fuel start dots d (cs ++ c ∷ []) there) ∙ e in absurd (cc)
  reach_token fuel start dots d cs ws (Some longer) reaches there e inside =
      let parts = or_false _ _ inside in
      reach_joined fuel start dots d cs ws longer (token dots (d ∷ cs)) reaches refl there
      (subst (λ (o : Option Taken). Joins c [] (token dots (d ∷ cs)) o) there (token_joins c [] seam dots d cs (ends_before (d ∷ cs) parts.0)))
      e parts.1

  pub reaches : (fuel : ℕ) → Reaches fuel
  reaches zero start dots [] ws e inside = absurd (cc)
  reaches (suc fuel) start dots [] ws e inside =
      let first : Some (in_front (kind_at c seam) (range_of start 1) []) ≡ Some ws = sym (seam_first fuel start dots c [] seam) ∙ e in
      subst (λ (xs : List RawToken). has_token_at (start + size []) xs ≡ true) (same_Some _ _ first)
      (ap (λ x. x || false) (eq-eqb start (start + size []) (omega arith)))
  reaches zero start dots (d ∷ cs) ws e inside = absurd (cc)
  reaches (suc fuel) start dots (d ∷ cs) ws e inside =
      reach_token fuel start dots d cs ws (token dots (d ∷ (cs ++ c ∷ []))) (reaches fuel) refl e inside
