-- Nested matches are flattened one by one, from the last to the first.
use Rattle.std.proofs.Common.{◌≡◌, Bool, true, false, ℕ, ◌<◌, ◌≤◌, List, [], ◌∷◌, ◌++◌, length, map, take, reverse, get_or, All, refl, sym, ◌∙◌, ap, subst, arith}
use Rattle.std.specs.List.{flat_map}
use Rattle.std.proofs.lemmas.List.{append-nil, append_assoc, reverse-append, same_lists, get_or-map, length-map}
use Rattle.std.proofs.lemmas.List.Elements.{All-nil, All-cons, All-append}
use Rattle.ssr_syntax_tree.proofs.Lists.{stands_at}
use Rattle.ide_ssr.specs.declared.matches.Match.{Match}
use Rattle.ide_ssr.specs.declared.matches.PlaceholderMatch.{PlaceholderMatch}
use Rattle.ide_ssr.specs.Flattened.{Told, inside, told_of, IsEmpty, HasNoneInside, Flattens, nothing, next}
use Rattle.ide_ssr.specs.Matches.{inner_of}
use Rattle.ide_ssr.specs.Private.Flattening.{MovesLast, FlattensLast}

-- ** Of a match.

-- the matches in the first i placeholders are taken
pub record AreTaken (i : ℕ) (old ps : List PlaceholderMatch) (before left : List Match) : Type 0 where
  pub counted : length ps ≡ length old
  pub taken : left ≡ before ++ flat_map inner_of (take i old)
  pub empty : (k : ℕ) (d : PlaceholderMatch) → k < i → IsEmpty (get_or ps k d)
  pub told : (k : ℕ) (d : PlaceholderMatch) → k < length old → told_of (get_or ps k d) ≡ told_of (get_or old k d)
  pub same : (k : ℕ) (d : PlaceholderMatch) → i ≤ k → get_or ps k d ≡ get_or old k d

told_at : (i : ℕ) (old ps : List PlaceholderMatch) (before left : List Match) → AreTaken i old ps before left → (k : ℕ) (d : Told) → k < length ps
    → get_or (map told_of ps) k d ≡ get_or (map told_of old) k d
told_at i old ps before left so_far k d less =
    let p = (stands_at ps k less).0 in
    let within : k < length old = omega (arith, so_far.counted) in
    get_or-map told_of ps k p d less ∙ so_far.told k p within ∙ sym (get_or-map told_of old k p d within)

pub told_all : (i : ℕ) (old ps : List PlaceholderMatch) (before left : List Match) → AreTaken i old ps before left → map told_of ps ≡ map told_of old
told_all i old ps before left so_far =
    same_lists (map told_of ps) (map told_of old) (length-map ps told_of ∙ so_far.counted ∙ sym (length-map old told_of))
    (λ k d less. told_at i old ps before left so_far k d (omega (arith, length-map ps told_of)))

-- ** Of a list.

pub flattens_append : (ms more flat rest : List Match) → Flattens ms flat → Flattens more rest → Flattens (ms ++ more) (flat ++ rest)
flattens_append _ more _ rest nothing behind = behind
flattens_append _ more _ rest (next m alone ms inner flat within is_alone others) behind =
    subst (Flattens (m ∷ (ms ++ more))) (sym (append_assoc inner (alone ∷ flat) rest))
    (next m alone (ms ++ more) inner (flat ++ rest) within is_alone (flattens_append ms more flat rest others behind))

-- the flattened list of two lists is that of the first and then that of the second
record IsSplit (ms more flat : List Match) : Type 0 where
  front : List Match
  back : List Match
  is : flat ≡ front ++ back
  of_front : Flattens ms front
  of_back : Flattens more back

split : (ms more flat : List Match) → Flattens (ms ++ more) flat → IsSplit ms more flat
split [] more flat is = record { front = []; back = flat; is = refl; of_front = nothing; of_back = is }
split (m ∷ ms) more _ (next _ alone _ inner rest within is_alone others) =
    let of_others = split ms more rest others in
    record {
      front = inner ++ alone ∷ of_others.front;
      back = of_others.back;
      is = ap (λ (l : List Match). inner ++ alone ∷ l) of_others.is ∙ sym (append_assoc inner (alone ∷ of_others.front) of_others.back);
      of_front = next m alone ms inner of_others.front within is_alone of_others.of_front;
      of_back = of_others.of_back;
    }

-- the flattened list of what is left, and the flat ones from the last to the first, are the flattened list of the answer
pub record IsFlattening (answer left flat : List Match) : Type 0 where
  pub on : (front : List Match) → Flattens left front → Flattens answer (front ++ reverse flat)

pub flattening_none : (answer flat : List Match) → flat ≡ [] → IsFlattening answer answer flat
flattening_none answer flat none = record {
  on = λ front is. subst (Flattens answer) (sym (ap (λ (l : List Match). front ++ reverse l) none ∙ append-nil front)) is;
}

flattening_last : (answer old left flat longer : List Match) → IsFlattening answer old flat → MovesLast old left flat longer → IsFlattening answer left longer
flattening_last answer old left flat longer so_far moves = record {
  on = λ front is.
      let parts = split moves.others (inside moves.m) front (subst (λ (l : List Match). Flattens l front) moves.in_its_place is) in
      let last = next moves.m moves.alone [] parts.back [] parts.of_back moves.is_alone nothing in
      let all = flattens_append moves.others (moves.m ∷ []) parts.front (parts.back ++ moves.alone ∷ []) parts.of_front last in
      let known = so_far.on (parts.front ++ (parts.back ++ moves.alone ∷ [])) (subst (λ (l : List Match). Flattens l (parts.front ++ (parts.back ++ moves.alone ∷ []))) (sym moves.is_last) all) in
      let same : (parts.front ++ (parts.back ++ moves.alone ∷ [])) ++ reverse flat ≡ front ++ reverse longer =
      append_assoc parts.front (parts.back ++ moves.alone ∷ []) (reverse flat)
      ∙ ap (λ (l : List Match). parts.front ++ l) (append_assoc parts.back (moves.alone ∷ []) (reverse flat))
      ∙ sym (append_assoc parts.front parts.back (moves.alone ∷ reverse flat))
      ∙ ap (λ (l : List Match). l ++ (moves.alone ∷ reverse flat)) (sym parts.is)
      ∙ ap (λ (l : List Match). front ++ l) (sym (reverse-append flat (moves.alone ∷ [])))
      ∙ ap (λ (l : List Match). front ++ reverse l) (sym moves.added) in
      subst (Flattens answer) same known;
}

pub flattening_more : (answer old left flat longer : List Match) (moved : Bool) → IsFlattening answer old flat → FlattensLast old left flat longer moved → moved ≡ true → IsFlattening answer left longer
flattening_more answer old left flat longer moved so_far last is =
    flattening_last answer old left flat longer so_far (subst (FlattensLast old left flat longer) is last)

pub flattening_all : (answer old left flat longer turned : List Match) (moved : Bool) → IsFlattening answer old flat → FlattensLast old left flat longer moved → moved ≡ false
    → turned ≡ reverse longer → Flattens answer turned
flattening_all answer old left flat longer turned moved so_far last is turn =
    let none : (old ≡ []) × (longer ≡ flat) = subst (FlattensLast old left flat longer) is last in
    subst (Flattens answer) (sym (turn ∙ ap (λ (l : List Match). reverse l) none.1)) (so_far.on [] (subst (λ (l : List Match). Flattens l []) (sym none.0) nothing))

pub none_inside : (ms flat : List Match) → Flattens ms flat → All HasNoneInside flat
none_inside _ _ nothing = All-nil HasNoneInside
none_inside _ _ (next m alone ms inner rest within is_alone others) =
    All-append HasNoneInside inner (alone ∷ rest) (none_inside (inside m) inner within)
    (All-cons HasNoneInside alone rest is_alone.none_inside (none_inside ms rest others))
