-- Names whose tokens are told by the parts of a text.
use Rattle.std.proofs.Common.{◌≡◌, ℕ, ◌+◌, ◌==◌, Bool, true, false, ◌||◌, if◌then◌else◌, List, [], ◌∷◌, All, length, map, Option, Some, inl, inr, refl, sym, ap, ◌∙◌, arith}
use Rattle.std.specs.Prelude.{is_some}
use Rattle.std.specs.List.{list_any}
use Rattle.std.proofs.lemmas.Bool.{eqb-true, eqb-false, eq-eqb, ne_eqb, cases_Bool}
use Rattle.ssr_syntax_kinds.specs.Kinds.{is_trivia}
use Rattle.ssr_syntax_tree.specs.Syntax.{Syntax}
use Rattle.ssr_syntax_tree.specs.Places.{token_of}
use Rattle.ssr_syntax_tree.specs.declared.number.TokenNo.{TokenNo}
use Rattle.ssr_syntax_rows.specs.Solid.{solid_tokens}
use Rattle.ssr_syntax_places.specs.Core.{Hole}
use Rattle.ssr_syntax_places.specs.LongTexts.{holes_in}
use Rattle.ssr_syntax_places.specs.Woven.{Part}
use Rattle.ssr_syntax_shorts.specs.Names.{name_places, place_of, AreNames}

turned : (a b : ℕ) → (a == b) ≡ (b == a)
turned a b =
    elim (cases_Bool (a == b)) [
      | inl is ↦ is ∙ sym (eq-eqb b a (sym (eqb-true a b is)))
      | inr isnt ↦ isnt ∙ sym (ne_eqb b a (λ e. eqb-false a b isnt (sym e)))
    ]

by_place : (b : Bool) (hole : Hole) (rest : Option Hole) (others : Bool) → is_some rest ≡ others
    → is_some (if b then Some hole else rest) ≡ (b || others)
by_place true hole rest others is = refl
by_place false hole rest others is = is

head_is : (a b : ℕ) (xs ys : List ℕ) → a ∷ xs ≡ b ∷ ys → a ≡ b
head_is a b xs ys e = cc

tail_is : (a b : ℕ) (xs ys : List ℕ) → a ∷ xs ≡ b ∷ ys → xs ≡ ys
tail_is a b xs ys e = cc

stand_there : (s : Syntax) (at : ℕ) (names : List TokenNo) (short : List Part) (holes : List Hole) (number : ℕ) → length short ≡ length holes
    → map (λ (name : TokenNo). place_of s name.0) names ≡ name_places at short
    → is_some (holes_in at short holes number) ≡ list_any (λ (name : TokenNo). place_of s name.0 == number) names
stand_there s at [] [] holes number count are = refl
stand_there s at (name ∷ names) [] holes number count are = absurd (cc)
stand_there s at [] (p ∷ ps) holes number count are = absurd (cc)
stand_there s at (name ∷ names) (p ∷ ps) [] number count are = absurd (omega (arith, count))
stand_there s at (name ∷ names) (p ∷ ps) (hole ∷ holes) number count are =
    let place : ℕ = at + length (solid_tokens p.before) in
    let here : place_of s name.0 ≡ place =
    head_is (place_of s name.0) place (map (λ (x : TokenNo). place_of s x.0) names) (name_places (place + 1) ps) are in
    let rest =
    stand_there s (place + 1) names ps holes number (omega (arith, count))
    (tail_is (place_of s name.0) place (map (λ (x : TokenNo). place_of s x.0) names) (name_places (place + 1) ps) are) in
    by_place (number == place) hole (holes_in (place + 1) ps holes number) (list_any (λ (x : TokenNo). place_of s x.0 == number) names) rest
    ∙ ap (λ b. b || list_any (λ (x : TokenNo). place_of s x.0 == number) names) (turned number place ∙ ap (λ m. m == number) (sym here))

pub named_by_parts : (s : Syntax) (names : List TokenNo) (short : List Part) (holes : List Hole)
    → All (λ (name : TokenNo). is_trivia (token_of s name.0).kind ≡ false) names → length short ≡ length holes
    → map (λ (name : TokenNo). place_of s name.0) names ≡ name_places 0 short → AreNames s names (holes_in 0 short holes)
named_by_parts s names short holes solid count are =
    record { solid = solid; stand = λ number. stand_there s 0 names short holes number count are }
