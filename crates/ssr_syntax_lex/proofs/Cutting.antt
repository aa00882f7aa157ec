-- The loop that cuts a text into tokens: what is known of what it has, and of what is left.
use Rattle.std.proofs.Common.{◌≡◌, ℕ, suc, zero, ◌+◌, ◌-◌, ◌<◌, ◌≤◌, ◌==◌, true, false, if◌then◌else◌, List, [], ◌∷◌, ◌++◌, length, map, vec_len, vec_capacity, refl, sym, ap, subst, ◌∙◌, arith, append_assoc}
use Rattle.std.specs.Prelude.{Option, Some, None}
use Rattle.std.specs.Option.{option_map, option_map_or, option_and_then}
use Rattle.std.specs.Str.{chars}
use Rattle.std.specs.declared.vec.Vec.{Vec}
use Rattle.ssr_syntax_lex.specs.Cursor.{Chars}
use Rattle.ssr_syntax_lex.specs.Raw.{Taken, token, fault_of}
use Rattle.ssr_syntax_lex.specs.Tokens.{size, range_of, in_front, dots_behind, tokens_from, tokens, fault_from, fault, row_of, rows_in}
use Rattle.ssr_syntax_lex.specs.Fault.{words_at}
use Rattle.ssr_syntax_kinds.specs.Kinds.{same_kind}
use Rattle.ssr_syntax_kinds.specs.TokenRows.{row_with}
use Rattle.ssr_syntax_kinds.specs.declared.kinds.SyntaxKind.TheVariants as k
use Rattle.ssr_syntax_kinds.specs.declared.kinds.SyntaxKind.{SyntaxKind}
use Rattle.ssr_syntax_kinds.specs.declared.token_rows.TokenRow.{TokenRow}
use Rattle.ssr_syntax_lex.specs.declared.tokens.RawToken.{RawToken}
use Rattle.ssr_syntax_lex.proofs.Fronts.{token_leaves, shorter}

-- The text has the rows `whole` and this fault; of its rows `done` are there.
pub record Cutting (whole : Option (List TokenRow)) (told : Option (List ℕ)) (total : ℕ) (done : List TokenRow) (start dots : ℕ) (rest : Chars) : Type 0 where
  pub fuel : ℕ
  pub enough : length rest ≤ fuel
  pub goes_on : option_map (λ ts. done ++ map row_of ts) (tokens_from fuel start dots rest) ≡ whole
  pub tells : fault_from fuel start dots rest ≡ told
  pub place : start + size rest ≡ total
  pub few : dots ≤ start

-- The columns of the rows that are there are of one length, and have room for a token of each byte that is left.
pub record HasRoom {Z : Type 0} (kinds : Vec SyntaxKind Z) (starts : Vec ℕ Z) (rest : Chars) : Type 0 where
  pub beside : length kinds.items ≡ length starts.items
  pub kinds_fit : vec_len kinds + size rest ≤ vec_capacity kinds
  pub starts_fit : vec_len starts + size rest ≤ vec_capacity starts

nothing_yet : (o : Option (List RawToken)) → option_map (λ ts. let none : List TokenRow = [] in none ++ map row_of ts) o ≡ option_map (map row_of) o
nothing_yet None = refl
nothing_yet (Some ts) = refl

pub started : (text : List ℕ) (total : ℕ) → total ≡ size (chars text) → Cutting (rows_in text) (fault text) total [] 0 0 (chars text)
unfolding tokens fault
started text total e = record {
  fuel = length (chars text);
  enough = omega arith;
  goes_on = nothing_yet (tokens_from (length (chars text)) 0 0 (chars text));
  tells = refl;
  place = omega arith;
  few = omega arith;
}

-- the first token of what is left, in front of the others
pub one_more : (fuel start dots c : ℕ) (cs : Chars) (kind : SyntaxKind) (rest : Chars) → token dots (c ∷ cs) ≡ Some (kind, rest) → tokens_from (suc fuel) start dots (c ∷ cs) ≡ option_map (in_front kind (range_of start (size (c ∷ cs) - size rest))) (tokens_from fuel (start + (size (c ∷ cs) - size rest)) (dots_behind dots kind) rest)
one_more fuel start dots c cs kind rest e =
    ap (option_and_then (λ (taken : Taken). let count : ℕ = size (c ∷ cs) - size taken.1 in
    option_map (in_front taken.0 (range_of start count)) (tokens_from fuel (start + count) (dots_behind dots taken.0) taken.1))) e

-- the fault is that behind the first token, or where that would begin
fault_behind : (fuel start dots c : ℕ) (cs : Chars) (kind : SyntaxKind) (rest : Chars) → token dots (c ∷ cs) ≡ Some (kind, rest) → fault_from (suc fuel) start dots (c ∷ cs) ≡ fault_from fuel (start + (size (c ∷ cs) - size rest)) (dots_behind dots kind) rest
fault_behind fuel start dots c cs kind rest e =
    let here : Option (List ℕ) = Some (words_at (fault_of (c ∷ cs)) start) in
    ap (λ o. option_map_or (λ (taken : Taken). let count : ℕ = size (c ∷ cs) - size taken.1 in fault_from fuel (start + count) (dots_behind dots taken.0) taken.1) o here) e

-- the row of the next token stands behind those that are there
pass_on : (done : List TokenRow) (kind : SyntaxKind) (start count : ℕ) (o : Option (List RawToken)) → option_map (λ ts. done ++ map row_of ts) (option_map (in_front kind (range_of start count)) o) ≡ option_map (λ ts. (done ++ row_with kind start ∷ []) ++ map row_of ts) o
pass_on done kind start count None = refl
pass_on done kind start count (Some ts) =
    ap (λ (rows : List TokenRow). let all : Option (List TokenRow) = Some rows in all) (sym (append_assoc done (row_with kind start ∷ []) (map row_of ts)))

few_dots : (dots : ℕ) (kind : SyntaxKind) → dots_behind dots kind ≤ dots + 1
few_dots dots kind = elim (same_kind kind k.DOT) as (λ b. (if b then dots + 1 else 0) ≤ dots + 1) [ true ↦ omega arith | false ↦ omega arith ]

-- one token further, with the fuel and the place as variables
step : (whole : Option (List TokenRow)) (told : Option (List ℕ)) (done more : List TokenRow) (fuel start dots next c : ℕ) (cs : Chars) (kind : SyntaxKind) (rest : Chars) → length rest ≤ length cs → suc (length cs) ≤ fuel → option_map (λ ts. done ++ map row_of ts) (tokens_from fuel start dots (c ∷ cs)) ≡ whole → fault_from fuel start dots (c ∷ cs) ≡ told → token dots (c ∷ cs) ≡ Some (kind, rest) → more ≡ done ++ row_with kind start ∷ [] → next ≡ start + (size (c ∷ cs) - size rest) → (left : ℕ) × (length rest ≤ left) × (option_map (λ ts. more ++ map row_of ts) (tokens_from left next (dots_behind dots kind) rest) ≡ whole) × (fault_from left next (dots_behind dots kind) rest ≡ told)
step whole told done more zero start dots next c cs kind rest less enough goes tells e pushed place = absurd (omega arith)
step whole told done more (suc fuel) start dots next c cs kind rest less enough goes tells e pushed place =
    let count : ℕ = size (c ∷ cs) - size rest in (
      fuel,
      omega arith,
      ap (λ rows. option_map (λ ts. rows ++ map row_of ts) (tokens_from fuel next (dots_behind dots kind) rest)) pushed
          ∙ (ap (λ n. option_map (λ ts. (done ++ row_with kind start ∷ []) ++ map row_of ts) (tokens_from fuel n (dots_behind dots kind) rest)) place
          ∙ (sym (pass_on done kind start count (tokens_from fuel (start + count) (dots_behind dots kind) rest))
          ∙ (sym (ap (option_map (λ ts. done ++ map row_of ts)) (one_more fuel start dots c cs kind rest e))
          ∙ goes))),
      ap (λ n. fault_from fuel n (dots_behind dots kind) rest) place ∙ (sym (fault_behind fuel start dots c cs kind rest e) ∙ tells),
    )

places : (start here left total : ℕ) → left < here → start + here ≡ total → total - left ≡ start + (here - left)
places start here left total h e = omega arith

left_place : (start here left total : ℕ) → left < here → start + here ≡ total → (total - left) + left ≡ total
left_place start here left total h e = omega arith

few_left : (start here left total dots more : ℕ) → left < here → start + here ≡ total → dots ≤ start → more ≤ dots + 1 → more ≤ total - left
few_left start here left total dots more h e few m = omega arith

gone_on : (whole : Option (List TokenRow)) (told : Option (List ℕ)) (total : ℕ) (done : List TokenRow) (start dots : ℕ) (cs : Chars) (kind : SyntaxKind) (rest : Chars) (more : List TokenRow) → Cutting whole told total done start dots cs → (length cs == 0) ≡ false → token dots cs ≡ Some (kind, rest) → more ≡ done ++ row_with kind start ∷ [] → Cutting whole told total more (total - size rest) (dots_behind dots kind) rest
gone_on whole told total done start dots [] kind rest more cutting some e pushed = absurd (cc)
gone_on whole told total done start dots (c ∷ cs) kind rest more cutting some e pushed =
    let less = shorter c cs rest (token_leaves dots c cs (kind, rest) e) in
    let fewer : size rest < size (c ∷ cs) = less.1 in
    let whole_place : start + size (c ∷ cs) ≡ total = cutting.place in
    let place : total - size rest ≡ start + (size (c ∷ cs) - size rest) = places start (size (c ∷ cs)) (size rest) total fewer whole_place in
    let stepped = step whole told done more cutting.fuel start dots (total - size rest) c cs kind rest less.0 cutting.enough cutting.goes_on cutting.tells e pushed place in
    record {
      fuel = stepped.0;
      enough = stepped.1;
      goes_on = stepped.2;
      tells = stepped.3;
      place = left_place start (size (c ∷ cs)) (size rest) total fewer whole_place;
      few = few_left start (size (c ∷ cs)) (size rest) total dots (dots_behind dots kind) fewer whole_place cutting.few (few_dots dots kind);
    }

-- the same, with the numbers as the code has them
pub gone_to : (whole : Option (List TokenRow)) (told : Option (List ℕ)) (total : ℕ) (done : List TokenRow) (start dots : ℕ) (cs : Chars) (kind : SyntaxKind) (rest : Chars) (more : List TokenRow) (next points : ℕ) → Cutting whole told total done start dots cs → (length cs == 0) ≡ false → token dots cs ≡ Some (kind, rest) → more ≡ done ++ row_with kind start ∷ [] → next ≡ total - size rest → points ≡ dots_behind dots kind → Cutting whole told total more next points rest
gone_to whole told total done start dots cs kind rest more next points cutting some e pushed n p =
    let there = gone_on whole told total done start dots cs kind rest more cutting some e pushed in
    subst (λ (x : ℕ). Cutting whole told total more x points rest) (sym n)
    (subst (λ (y : ℕ). Cutting whole told total more (total - size rest) y rest) (sym p) there)

one_less : (n m : ℕ) → n ≤ m → n < suc m
one_less n m h = omega arith

-- what the code's numbers need
pub record Ahead (total start dots : ℕ) (cs rest : Chars) : Type 0 where
  pub left : size rest ≤ total
  pub begins : start ≤ total - size rest
  pub few : dots + 1 ≤ total
  pub less : length rest < length cs
  pub shorter : size rest < size cs

ahead_bounds : (total start dots here left : ℕ) → left < here → start + here ≡ total → dots ≤ start → (left ≤ total) × (start ≤ total - left) × (dots + 1 ≤ total)
ahead_bounds total start dots here left h e few = (omega arith, omega arith, omega arith)

pub looked_ahead : (whole : Option (List TokenRow)) (told : Option (List ℕ)) (total : ℕ) (done : List TokenRow) (start dots : ℕ) (cs : Chars) (kind : SyntaxKind) (rest : Chars) → Cutting whole told total done start dots cs → (length cs == 0) ≡ false → token dots cs ≡ Some (kind, rest) → Ahead total start dots cs rest
looked_ahead whole told total done start dots [] kind rest cutting some e = absurd (cc)
looked_ahead whole told total done start dots (c ∷ cs) kind rest cutting some e =
    let less = shorter c cs rest (token_leaves dots c cs (kind, rest) e) in
    let bounds = ahead_bounds total start dots (size (c ∷ cs)) (size rest) less.1 cutting.place cutting.few in
    record { left = bounds.0; begins = bounds.1; few = bounds.2; less = one_less (length rest) (length cs) less.0; shorter = less.1 }
