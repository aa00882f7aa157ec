-- Texts of parts are paired by what the names of the short one stand for, in order.
use Rattle.std.proofs.Common.{◌≡◌, ℕ, ◌+◌, ◌<◌, ◌≤◌, ◌==◌, Bool, true, false, if◌then◌else◌, List, [], ◌∷◌, length, Some, None, inl, inr, refl, ap, subst, ◌∙◌, arith}
use Rattle.std.specs.Prelude.{Option}
use Rattle.std.proofs.lemmas.Bool.{and_from, cases_Bool, eq-eqb, eqb-true}
use Rattle.ssr_syntax_kinds.specs.declared.reach.Reach.{Reach}
use Rattle.ssr_syntax_lex.specs.Tokens.{tokens}
use Rattle.ssr_syntax_lex.specs.declared.tokens.RawToken.{RawToken}
use Rattle.ssr_syntax_forms.specs.declared.tokens.Token.{Token}
use Rattle.ssr_syntax_rows.specs.Solid.{solid_tokens}
use Rattle.ssr_syntax_places.specs.Core.{Hole, Holes, IsFilling, AreFillings, is_no_hole, are_spelled}
use Rattle.ssr_syntax_places.specs.LongTexts.{AreInsides, AreNamed, ArePaired, holes_in}
use Rattle.ssr_syntax_places.specs.Woven.{Part, AreWoven, StandFor}
use Rattle.ssr_syntax_places.proofs.AlignedParts.{same_before}
use Rattle.ssr_syntax_places.proofs.Insides.{some_same}

-- ** What a number stands for.

other_number : (a b : ℕ) (x y : Option Hole) → (a ≡ b → ⊥) → (if a == b then x else y) ≡ y
other_number a b x y apart = elim (cases_Bool (a == b)) [
  | inl is ↦ absurd (apart (eqb-true a b is))
  | inr miss ↦ ap (λ c. if c then x else y) miss
]

same_number : (a : ℕ) (x y : Option Hole) → (if a == a then x else y) ≡ x
same_number a x y = ap (λ c. if c then x else y) (eq-eqb a a refl)

-- from a number on, these holes are those of the parts
abbrev AreFrom : Holes → ℕ → List Part → List Hole → Type 0
AreFrom holes at ps hs = (number : ℕ) → at ≤ number → holes number ≡ holes_in at ps hs number

-- tokens in front of a name stand for themselves
spelled_until : (holes : Holes) (at last : ℕ) (us : List Token) → at + length us ≤ last → ((number : ℕ) → at ≤ number → number < last → holes number ≡ None)
    → are_spelled holes at us ≡ true
spelled_until holes at last [] few none = refl
spelled_until holes at last (t ∷ us) few none =
    and_from (is_no_hole (holes at)) (are_spelled holes (at + 1) us) (ap is_no_hole (none at (omega arith) (omega (arith, few))))
    (spelled_until holes (at + 1) last us (omega (arith, few)) (λ number low high. none number (omega (arith, low)) high))

abbrev name_at : ℕ → Part → ℕ
name_at at p = at + length (solid_tokens p.before)

front_none : (holes : Holes) (at : ℕ) (p : Part) (ps : List Part) (h : Hole) (hs : List Hole) → AreFrom holes at (p ∷ ps) (h ∷ hs) → (number : ℕ)
    → at ≤ number → number < name_at at p → holes number ≡ None
front_none holes at p ps h hs from number low high =
    from number low
    ∙ other_number number (name_at at p) (Some h) (holes_in (name_at at p + 1) ps hs number) (λ e. omega (arith, e, high))
    ∙ none_yet (name_at at p + 1) ps hs number (omega (arith, high)) where
      none_yet : (at : ℕ) (ps : List Part) (hs : List Hole) (number : ℕ) → number < at → holes_in at ps hs number ≡ None
      none_yet at [] hs number less = refl
      none_yet at (p ∷ ps) [] number less = refl
      none_yet at (p ∷ ps) (h ∷ hs) number less =
          other_number number (name_at at p) (Some h) (holes_in (name_at at p + 1) ps hs number) (λ e. omega (arith, e, less))
          ∙ none_yet (name_at at p + 1) ps hs number (omega (arith, less))

rest_from : (holes : Holes) (at : ℕ) (p : Part) (ps : List Part) (h : Hole) (hs : List Hole) → AreFrom holes at (p ∷ ps) (h ∷ hs)
    → AreFrom holes (name_at at p + 1) ps hs
rest_from holes at p ps h hs from number low =
    from number (omega (arith, low))
    ∙ other_number number (name_at at p) (Some h) (holes_in (name_at at p + 1) ps hs number) (λ e. omega (arith, e, low))

name_held : (holes : Holes) (at : ℕ) (p : Part) (ps : List Part) (h : Hole) (hs : List Hole) → AreFrom holes at (p ∷ ps) (h ∷ hs)
    → holes (name_at at p) ≡ Some h
name_held holes at p ps h hs from =
    from (name_at at p) (omega arith) ∙ same_number (name_at at p) (Some h) (holes_in (name_at at p + 1) ps hs (name_at at p))

-- ** Parts.

named_stand : (reach : Reach) (holes : Holes) (at : ℕ) (ps qs : List Part) (hs : List Hole) (last : List ℕ) (after : List Token) → AreWoven ps last
    → AreWoven qs last → AreNamed reach ps qs hs → AreFrom holes at ps hs → StandFor holes at ps qs after
named_stand reach holes at [] [] [] last after is other named from =
    spelled_until holes at (at + length after) after (omega arith) (λ number low high. from number low)
named_stand reach holes at (p ∷ ps) (q ∷ qs) (h ∷ hs) last after is other (here, named) from = (
  h,
  ap solid_tokens (same_before p q is.2 other.2 here.front here.opening),
  spelled_until holes at (name_at at p) (solid_tokens p.before) (omega arith) (front_none holes at p ps h hs from),
  here.single,
  name_held holes at p ps h hs from,
  here.tokens_are,
  named_stand reach holes (name_at at p + 1) ps qs hs last after is.5 other.5 named (rest_from holes at p ps h hs from),
)
named_stand reach holes at _ _ _ last after is other named from = absurd named

named_insides : (reach : Reach) (holes : Holes) (at : ℕ) (ps qs : List Part) (hs : List Hole) → AreNamed reach ps qs hs → AreFrom holes at ps hs
    → AreInsides reach holes at ps qs
named_insides reach holes at [] [] [] named from = tt
named_insides reach holes at (p ∷ ps) (q ∷ qs) (h ∷ hs) (here, named) from =
    (h, here.front, here.opening, here.one, name_held holes at p ps h hs from, here.inside, named_insides reach holes (name_at at p + 1) ps qs hs named (rest_from holes at p ps h hs from))
named_insides reach holes at _ _ _ named from = absurd named

named_fill : (reach : Reach) (at : ℕ) (ps qs : List Part) (hs : List Hole) → AreNamed reach ps qs hs → AreFillings reach (holes_in at ps hs)
named_fill reach at [] [] [] named number hole e = absurd (cc)
named_fill reach at (p ∷ ps) (q ∷ qs) (h ∷ hs) (here, named) number hole e =
    pick (number == name_at at p) (holes_in (name_at at p + 1) ps hs number) (named_fill reach (name_at at p + 1) ps qs hs named number hole) e where
      pick : (b : Bool) (o : Option Hole) → (o ≡ Some hole → IsFilling reach hole) → (if b then Some h else o) ≡ Some hole → IsFilling reach hole
      pick true o further e = subst (IsFilling reach) (some_same h hole e) here.filling
      pick false o further e = further e
named_fill reach at _ _ _ named number hole e = absurd named

pub named_paired : (reach : Reach) (short long : List Part) (holes : List Hole) (last : List ℕ) (after : List RawToken) → AreWoven short last
    → AreWoven long last → tokens last ≡ Some after → AreNamed reach short long holes → ArePaired reach (holes_in 0 short holes) short long last after
named_paired reach short long holes last after is other lexes named = record {
  fillings = named_fill reach 0 short long holes named;
  short_is = is;
  long_is = other;
  lexes = lexes;
  stand = named_stand reach (holes_in 0 short holes) 0 short long holes last (solid_tokens after) is other named (λ number low. refl);
  insides = named_insides reach (holes_in 0 short holes) 0 short long holes named (λ number low. refl);
}
