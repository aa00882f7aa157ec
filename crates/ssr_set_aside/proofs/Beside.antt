-- Which matches touch the reach of a part that belongs to the token beside it.
use Rattle.std.proofs.Common.{◌≡◌, ◌<◌, ◌≤◌, ◌⊎◌, inl, inr, Bool, true, false, refl, arith}
use Rattle.std.specs.Prelude.{◌&&◌, nat_lt}
use Rattle.std.proofs.lemmas.Bool.{ltb-true, lt-ltb}
use Rattle.ssr_base_trees.specs.Changes.{Change}
use Rattle.ssr_base_trees.specs.Origins.{Span}
use Rattle.ssr_set_aside.specs.Beside.{Holds, TouchesAhead, TouchesBehind}
use Rattle.ssr_set_aside.specs.Sparing.{touches}

-- a change touches a reach if each begins before the other one ends
touching : (m : Change) (reach : Span) → m.start < reach.end → reach.start < m.end → touches m reach ≡ true
touching m reach h l = rw (lt-ltb m.start reach.end h, lt-ltb reach.start m.end l) refl

touched : (m : Change) (reach : Span) → touches m reach ≡ true → (m.start < reach.end) × (reach.start < m.end)
touched m reach e = by (nat_lt m.start reach.end) refl (nat_lt reach.start m.end) refl e
  where
    by : (x : Bool) → nat_lt m.start reach.end ≡ x → (y : Bool) → nat_lt reach.start m.end ≡ y → (x && y) ≡ true
        → (m.start < reach.end) × (reach.start < m.end)
    by true a true b e = (ltb-true m.start reach.end a, ltb-true reach.start m.end b)
    by true a false b e = absurd (cc)
    by false a y b e = absurd (cc)

pub touches_ahead : TouchesAhead
touches_ahead m part next reach some ordered is starts = (λ t. to starts (touched m reach t), from)
  where
    to : (m.start < part.end) ⊎ (next ≤ m.start) → (m.start < reach.end) × (reach.start < m.end) → Holds m part ⊎ (m.start ≡ next)
    to (inl l) t = inl (l, omega (arith, t.1, is.1))
    to (inr l) t = inr (omega (arith, t.0, is.2, l))

    from : Holds m part ⊎ (m.start ≡ next) → touches m reach ≡ true
    from (inl h) = touching m reach (omega (arith, h.0, is.0, is.2)) (omega (arith, h.1, is.1))
    from (inr e) = touching m reach (omega (arith, e, is.2)) (omega (arith, e, is.0, is.1, some, ordered))

pub touches_behind : TouchesBehind
touches_behind m part last reach some ordered is ends = (λ t. to ends (touched m reach t), from)
  where
    to : (m.end ≤ last) ⊎ (part.start < m.end) → (m.start < reach.end) × (reach.start < m.end) → Holds m part ⊎ (m.end ≡ last)
    to (inl l) t = inr (omega (arith, t.1, is.1, l))
    to (inr l) t = inl (omega (arith, t.0, is.2), l)

    from : Holds m part ⊎ (m.end ≡ last) → touches m reach ≡ true
    from (inl h) = touching m reach (omega (arith, h.0, is.2)) (omega (arith, h.1, is.0, is.1))
    from (inr e) = touching m reach (omega (arith, e, is.0, is.2, some, ordered)) (omega (arith, e, is.1))
