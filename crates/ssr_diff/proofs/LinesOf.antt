-- Laws of the lines of a text.
use Rattle.std.proofs.Common.{◌≡◌, ◌≢◌, ℕ, suc, ◌+◌, ◌-◌, ◌<◌, true, false, cond, List, [], ◌∷◌, ◌++◌, length, get_or, refl, sym, ◌∙◌, ap, subst, arith, Option, Some, None, take, map, Bor}
use Rattle.std.specs.Prelude.{slice_index, option_map, IfSome, ◌==◌}
use Rattle.std.specs.List.{concat}
use Rattle.std.proofs.lemmas.List.{append-nil}
use Rattle.std.specs.Str.Iter.{LacksByte, IsSplitInclusiveRun, EndsAtEveryByte}
use Rattle.std.specs.Iterator.Runs.{Run}
use Rattle.std.proofs.lemmas.List.{get_or-map, length-map}
use Rattle.std.proofs.lemmas.Bool.Decides.{nat_tests}
use Rattle.ssr_diff.specs.Patch.{lines_of, with_front}

-- the bytes of a line in front of lines
pub concat-with_front : (b : ℕ) (lines : List (List ℕ)) → concat (with_front b lines) ≡ b ∷ concat lines
concat-with_front b [] = refl
concat-with_front b (line ∷ lines) = refl

-- the lines of a text make it up
pub concat-lines_of : (bs : List ℕ) → concat (lines_of bs) ≡ bs
concat-lines_of [] = refl
concat-lines_of (b ∷ bs) =
    elim (b == 10) as (λ v. concat (cond v ((b ∷ []) ∷ lines_of bs) (with_front b (lines_of bs))) ≡ b ∷ bs) [
      | true ↦ ap (λ (r : List ℕ). b ∷ r) (concat-lines_of bs)
      | false ↦ concat-with_front b (lines_of bs) ∙ ap (λ (r : List ℕ). b ∷ r) (concat-lines_of bs)
    ]

pub not_break : (b : ℕ) → b ≢ 10 → (b == 10) ≡ false
not_break b h = grind (arith, nat_tests)

pub is_break : (b : ℕ) → b ≡ 10 → (b == 10) ≡ true
is_break b h = grind (arith, nat_tests)

-- no byte of a text is a line break, but for the last
abbrev pub IsOneLine : List ℕ → Type 0
IsOneLine [] = Unit {0}
IsOneLine (b ∷ []) = Unit {0}
IsOneLine (b ∷ c ∷ bs) = (b ≢ 10) × IsOneLine (c ∷ bs)

abbrev pub EndsWithBreak : List ℕ → Type 0
EndsWithBreak [] = ⊥
EndsWithBreak (b ∷ []) = b ≡ 10
EndsWithBreak (b ∷ c ∷ bs) = EndsWithBreak (c ∷ bs)

-- a line at the end of a text
pub last_line : (b : ℕ) (line : List ℕ) → IsOneLine (b ∷ line) → lines_of (b ∷ line) ≡ (b ∷ line) ∷ []
last_line b [] h = elim (b == 10) as (λ v. cond v ((b ∷ []) ∷ []) ((b ∷ []) ∷ []) ≡ (b ∷ []) ∷ []) [ true ↦ refl | false ↦ refl ]
last_line b (c ∷ line) h =
    rw (not_break b h.0) (ap (with_front b) (last_line c line h.1))

-- a line that ends with its line break, in front of more
pub line_before : (b : ℕ) (line more : List ℕ) → IsOneLine (b ∷ line) → EndsWithBreak (b ∷ line)
    → lines_of ((b ∷ line) ++ more) ≡ (b ∷ line) ∷ lines_of more
line_before b [] more h e = rw (is_break b e) refl
line_before b (c ∷ line) more h e =
    rw (not_break b h.0) (ap (with_front b) (line_before c line more h.1 e))

-- each of some pieces is a line, and each but the last has its line break
abbrev pub AreLines : List (List ℕ) → Type 0
AreLines [] = Unit {0}
AreLines ([] ∷ lines) = ⊥
AreLines ((b ∷ line) ∷ []) = IsOneLine (b ∷ line)
AreLines ((b ∷ line) ∷ next ∷ lines) = IsOneLine (b ∷ line) × EndsWithBreak (b ∷ line) × AreLines (next ∷ lines)

-- such pieces are the lines of the text that they make up
pub lines_of-concat : (lines : List (List ℕ)) → AreLines lines → lines_of (concat lines) ≡ lines
lines_of-concat [] h = refl
lines_of-concat ([] ∷ lines) h = absurd h
lines_of-concat ((b ∷ line) ∷ []) h = ap lines_of (append-nil (b ∷ line)) ∙ last_line b line h
lines_of-concat ((b ∷ line) ∷ next ∷ lines) h =
    line_before b line (concat (next ∷ lines)) h.0 h.1 ∙ ap (λ (ls : List (List ℕ)). (b ∷ line) ∷ ls) (lines_of-concat (next ∷ lines) h.2)

-- a piece that lacks a line break before its last byte
pub one_line : (b : ℕ) (line : List ℕ) → LacksByte 10 (take (length (b ∷ line) - 1) (b ∷ line)) → IsOneLine (b ∷ line)
one_line b [] h = tt
one_line b (c ∷ line) h =
    let n : length (b ∷ c ∷ line) - 1 ≡ suc (length (c ∷ line) - 1) = omega arith in
    let l : LacksByte 10 (b ∷ take (length (c ∷ line) - 1) (c ∷ line)) = subst (λ (n : ℕ). LacksByte 10 (take n (b ∷ c ∷ line))) n h in
    (l 0 (omega arith), one_line c line (λ k m. l (suc k) (omega arith)))

pub ends_with_break : (b : ℕ) (line : List ℕ) → slice_index (b ∷ line) (length (b ∷ line) - 1) ≡ 10 → EndsWithBreak (b ∷ line)
ends_with_break b [] h = h
ends_with_break b (c ∷ line) h =
    let n : length (b ∷ c ∷ line) - 1 ≡ suc (length (c ∷ line) - 1) = omega arith in
    ends_with_break c line (subst (λ (n : ℕ). slice_index (b ∷ c ∷ line) n ≡ 10) n h)

-- pieces by their places
pub are_lines : (lines : List (List ℕ))
    → ((k : ℕ) → k < length lines → (0 < length (get_or lines k [])) × LacksByte 10 (take (length (get_or lines k []) - 1) (get_or lines k [])))
    → ((k : ℕ) → k + 1 < length lines → slice_index (get_or lines k []) (length (get_or lines k []) - 1) ≡ 10)
    → AreLines lines
are_lines [] h e = tt
are_lines ([] ∷ lines) h e = let z : 0 < 0 = (h 0 (omega arith)).0 in absurd (omega arith)
are_lines ((b ∷ line) ∷ []) h e = one_line b line (h 0 (omega arith)).1
are_lines ((b ∷ line) ∷ next ∷ lines) h e = (
  one_line b line (h 0 (omega arith)).1,
  ends_with_break b line (e 0 (omega arith)),
  are_lines (next ∷ lines) (λ k l. h (suc k) (omega arith)) (λ k l. e (suc k) (omega arith)),
)

-- an item of a list that has one at a place
some_of : {X : Type 0} (xs : List X) (k : ℕ) → k < length xs → X
some_of [] k h = absurd (omega arith)
some_of (x ∷ xs) k h = x

at_item : {X : Type 0} (o : Option X) (x : X) (P : X → Type 0) → option_map (λ y. y) o ≡ Some x → IfSome o P → P x
at_item None x P e h = cc
at_item (Some y) x P e h = let same : y ≡ x = cc in subst P same h

-- the pieces of a text that was cut behind each line break are its lines
pub lines_of_run : {S : Type 0} {steps : S → Option (Bor (List ℕ)) → S → Type 0} (p : Run steps) (bs : List ℕ) → p.whole ≡ true
    → IsSplitInclusiveRun p bs → EndsAtEveryByte p bs 10 → map (λ (x : Bor (List ℕ)). x.now) p.items ≡ lines_of bs
lines_of_run {S} {steps} p bs whole run ends =
    let now : Bor (List ℕ) → List ℕ = λ x. x.now in
    let lines = map now p.items in
    let long : length lines ≡ length p.items = length-map p.items now in
    let each : AreLines lines = are_lines lines
    (λ k h. let in_items : k < length p.items = omega (arith, long) in
    let d = some_of p.items k in_items in
    let x = get_or p.items k d in
    let in_run : k < p.len = omega (arith, p.long) in
    subst (λ (line : List ℕ). (0 < length line) × LacksByte 10 (take (length line - 1) line)) (sym (get_or-map now p.items k d [] in_items))
    (at_item (p.at k) x (λ (y : Bor (List ℕ)). (0 < length y.now) × LacksByte 10 (take (length y.now - 1) y.now)) (p.reads k d in_run) (ends.0 k)))
    (λ k h. let in_items : k < length p.items = omega (arith, long) in
    let d = some_of p.items k in_items in
    let x = get_or p.items k d in
    let in_run : k + 1 < p.len = omega (arith, p.long, long) in
    let here : k < p.len = omega (arith, in_run) in
    subst (λ (line : List ℕ). slice_index line (length line - 1) ≡ 10) (sym (get_or-map now p.items k d [] in_items))
    (at_item (p.at k) x (λ (y : Bor (List ℕ)). slice_index y.now (length y.now - 1) ≡ 10) (p.reads k d here) (ends.1 k in_run)))
    in sym (ap lines_of (run.1 whole) ∙ lines_of-concat lines each)
