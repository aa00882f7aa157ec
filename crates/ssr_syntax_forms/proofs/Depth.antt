-- A forest that isn't deep fits its goal with few levels: each node is worth as many levels as goals may stand in a row.
use Rattle.std.proofs.Common.{◌≡◌, ℕ, zero, suc, ◌+◌, ◌*◌, ◌<◌, ◌≤◌, nat_lt, Bool, true, false, ◌||◌, ◌&&◌, if◌then◌else◌, List, [], ◌∷◌, ◌++◌, inl, inr, subst, arith}
use Rattle.std.specs.Prelude.{⊤}
use Rattle.std.proofs.lemmas.Bool.{ltb-true, and_parts, cases_Bool, or_cases}
use Rattle.ssr_syntax_forms.specs.declared.tokens.Token.{Token}
use Rattle.ssr_syntax_forms.specs.Trees.{Forest, done, leaf, tree, join, height}
use Rattle.ssr_syntax_forms.specs.Forms.{Productions, Form, one, child, mark, seal, ◌then◌, nothing, choose, many, look, check, wide, taken_as}
use Rattle.ssr_syntax_forms.proofs.Nested.{FitsBelow, Step, Repeats, FitsForm, FitsGoal}
use Rattle.ssr_syntax_forms.proofs.Walks.{IsKept, walk}

-- all since the mark is put into a node
abbrev pub seals : {Goal : Type 0} → Form Goal → Bool
seals (one whole ks) = false
seals (child goal) = false
seals (mark f) = false
seals (seal kind) = true
seals (f then g) = seals f || seals g
seals nothing = false
seals (choose test f g) = seals f && seals g
seals (many test f) = false
seals (look want test) = false
seals (check condition) = false
seals (wide f g) = seals g

-- each goal in the form, but those that are free, is put into a node: here, or, with `later`, behind the form
abbrev pub covered : {Goal : Type 0} → (Goal → Bool) → Bool → Form Goal → Bool
covered free later (one whole ks) = true
covered free later (child asked) = later || free asked
covered free later (mark f) = covered free later f
covered free later (seal kind) = true
covered free later (f then g) = covered free (later || seals g) f && covered free later g
covered free later nothing = true
covered free later (choose test f g) = covered free later f && covered free later g
covered free later (many test f) = covered free later f
covered free later (look want test) = true
covered free later (check condition) = true
covered free later (wide f g) = covered free later g

-- at most `high` nodes stand above one another
abbrev pub IsShallow : ℕ → Forest → Type 0
IsShallow high done = ⊤
IsShallow high (leaf kind tokens x) = IsShallow high x
IsShallow zero (tree kind kids x) = ⊥
IsShallow (suc high) (tree kind kids x) = IsShallow high kids × IsShallow (suc high) x

pub shallow_of : (z : Forest) (high : ℕ) → height z ≤ high → IsShallow high z
shallow_of done high le = tt
shallow_of (leaf kind us x) high le = shallow_of x high le
shallow_of (tree kind kids x) zero le = absurd (omega arith)
shallow_of (tree kind kids x) (suc high) le = (shallow_of kids high (omega arith), shallow_of x (suc high) (omega arith))

-- fewer nodes than this stand above one another
abbrev pub Low : ℕ → Forest → Type 0
Low zero z = ⊥
Low (suc high) z = IsShallow high z

shallow_join : (high : ℕ) (x y : Forest) → IsShallow high (join x y) → IsShallow high x × IsShallow high y
shallow_join high done y h = (tt, h)
shallow_join high (leaf kind us x) y h = shallow_join high x y h
shallow_join zero (tree kind kids x) y h = absurd h
shallow_join (suc high) (tree kind kids x) y h = let m = shallow_join (suc high) x y h.1 in ((h.0, m.0), m.1)

shallow_more : (high : ℕ) (z : Forest) → IsShallow high z → IsShallow (suc high) z
shallow_more high done h = tt
shallow_more high (leaf kind us x) h = shallow_more high x h
shallow_more zero (tree kind kids x) h = absurd h
shallow_more (suc high) (tree kind kids x) h = (shallow_more high kids h.0, shallow_more (suc high) x h.1)

low_join : (n : ℕ) (x y : Forest) → Low n (join x y) → Low n x × Low n y
low_join zero x y h = absurd h
low_join (suc n) x y h = shallow_join n x y h

low_more : (n : ℕ) (z : Forest) → Low n z → Low (suc n) z
low_more zero z h = absurd h
low_more (suc n) z h = shallow_more n z h

low_node : (n : ℕ) (kind : _) (x : Forest) → Low (suc n) (tree kind x done) → Low n x
low_node zero kind x h = absurd h
low_node (suc n) kind x h = h.0

low_before_node : (n : ℕ) (kind : _) (x : Forest) → Low n (tree kind x done) → Low n x
low_before_node zero kind x h = absurd h
low_before_node (suc n) kind x h = low_more n x (low_node n kind x h)

parts : (n : ℕ) (x y z : Forest) → z ≡ join x y → Low n z → Low n x × Low n y
parts n x y z e h = low_join n x y (subst (Low n) e h)

low_nothing : (n : ℕ) (z : Forest) → Low n z → Low n done
low_nothing zero z h = absurd h
low_nothing (suc n) z h = tt

-- what was made before is as low
keeps_low : (n : ℕ) → IsKept (λ x z us rest. Low n z → Low n x)
keeps_low n = record {
  token = λ whole ks t us rest is m h. low_nothing n (leaf (taken_as whole t) (t ∷ us) done) h;
  node = λ kind x rest h. low_before_node n kind x h;
  beside = λ x y us rest f h. (low_join n x y h).0;
  stay = λ x rest h. h;
  over = λ x y z us vs rest f g h. f (g h);
}

low_before : {Goal : Type 0} (n : ℕ) (fits : FitsBelow Goal) (form : Form Goal) (x z : Forest) (us rest : List Token)
    → FitsForm fits form x z us rest → Low n z → Low n x
low_before n fits form x z us rest f =
    walk (λ x z us rest. Low n z → Low n x) (keeps_low n) fits (λ asked y us rest g. low_nothing n y) form x z us rest f

-- what is put into a node is lower than that
low_inside : {Goal : Type 0} (n : ℕ) (fits : FitsBelow Goal) (form : Form Goal) → seals form ≡ true → (x z : Forest) (us rest : List Token)
    → FitsForm fits form x z us rest → Low (suc n) z → Low n x
low_inside n fits (one whole ks) s x z us rest f h = cc
low_inside n fits (child goal) s x z us rest f h = cc
low_inside n fits (mark g) s x z us rest f h = cc
low_inside n fits (seal kind) s x z us rest (_, z_is) h = low_node n kind x (subst (Low (suc n)) z_is h)
low_inside n fits (g then k) s x z us rest (mid, taken, left, _, before, after) h =
    elim (or_cases (seals g) (seals k) s) [
      | inl e ↦ low_inside n fits g e x mid taken (left ++ rest) before (low_before (suc n) fits k mid z left rest after h)
      | inr e ↦ low_before n fits g x mid taken (left ++ rest) before (low_inside n fits k e mid z left rest after h)
    ]
low_inside n fits nothing s x z us rest f h = cc
low_inside n fits (choose test g k) s x z us rest (inl f) h = low_inside n fits g (and_parts (seals g) (seals k) s).0 x z us rest f h
low_inside n fits (choose test g k) s x z us rest (inr f) h = low_inside n fits k (and_parts (seals g) (seals k) s).1 x z us rest f h
low_inside n fits (many test g) s x z us rest f h = cc
low_inside n fits (look want test) s x z us rest f h = cc
low_inside n fits (check condition) s x z us rest f h = cc
low_inside n fits (wide w v) s x z us rest f h = low_inside n fits v s x z us rest f h

-- how low the whole must be, for goals in it to be lower than n
abbrev room : Bool → ℕ → ℕ
room later n = if later then n else suc n

mid_low : {Goal : Type 0} (n : ℕ) (fits : FitsBelow Goal) (later : Bool) (form : Form Goal) (y z : Forest) (us rest : List Token)
    → FitsForm fits form y z us rest → Low (room later n) z → Low (room (later || seals form) n) y
mid_low n fits true form y z us rest f h = low_before n fits form y z us rest f h
mid_low n fits false form y z us rest f h =
    elim (cases_Bool (seals form)) [
      | inl is ↦ rw is (low_inside n fits form is y z us rest f h)
      | inr not_sealed ↦ rw not_sealed (low_before (suc n) fits form y z us rest f h)
    ]

low_room : (later : Bool) (n : ℕ) (z : Forest) → Low (room later n) z → Low (suc n) z
low_room true n z h = low_more n z h
low_room false n z h = h

-- lower trees fit the goals with fewer levels; those that are as low fit the free ones
record Lowers {Goal : Type 0} (n : ℕ) (free : Goal → Bool) (fits fewer : FitsBelow Goal) : Type 0 where
  inside : (asked : Goal) (y : Forest) (us rest : List Token) → fits asked y us rest → Low n y → fewer asked y us rest
  alone : (asked : Goal) (y : Forest) (us rest : List Token) → free asked ≡ true → fits asked y us rest → Low (suc n) y → fewer asked y us rest

repeats_lower : {Goal : Type 0} (n k : ℕ) (fits : FitsBelow Goal) (form : Form Goal) (step : Step)
    → ((x z : Forest) (us rest : List Token) → FitsForm fits form x z us rest → Low k z → step x z us rest)
    → (m : ℕ) (x z : Forest) (us rest : List Token) → Repeats m (FitsForm fits form) x z us rest → Low k z → Repeats m step x z us rest
repeats_lower n k fits form step down zero x z us rest f h = f
repeats_lower n k fits form step down (suc m) x z us rest (mid, taken, left, us_is, one_turn, turns_left) h = (
  mid,
  taken,
  left,
  us_is,
  down x mid taken (left ++ rest) one_turn (low_before k fits (many [] form) mid z left rest (m, turns_left) h),
  repeats_lower n k fits form step down m mid z left rest turns_left h,
)

lower : {Goal : Type 0} (n : ℕ) (free : Goal → Bool) (fits fewer : FitsBelow Goal) → Lowers n free fits fewer
    → (form : Form Goal) (later : Bool) → covered free later form ≡ true
    → (x z : Forest) (us rest : List Token) → FitsForm fits form x z us rest → Low (room later n) z → FitsForm fewer form x z us rest
lower n free fits fewer b (one whole ks) later c x z us rest f h = f
lower n free fits fewer b (child asked) later c x z us rest (y, y_fits, z_is) h =
    elim (or_cases later (free asked) c) [
      | inl is_later ↦
          let low : Low n z = subst (λ w. Low (room w n) z) is_later h in
          (y, b.inside asked y us rest y_fits (parts n x y z z_is low).1, z_is)
      | inr is_free ↦
          (y, b.alone asked y us rest is_free y_fits (parts (suc n) x y z z_is (low_room later n z h)).1, z_is)
    ]
lower n free fits fewer b (mark g) later c x z us rest (y, y_fits, z_is) h =
    (y, lower n free fits fewer b g later c done y us rest y_fits (parts (room later n) x y z z_is h).1, z_is)
lower n free fits fewer b (seal kind) later c x z us rest f h = f
lower n free fits fewer b (g then k) later c x z us rest (mid, taken, left, us_is, before, after) h =
    let d = and_parts (covered free (later || seals k) g) (covered free later k) c in (
      mid,
      taken,
      left,
      us_is,
      lower n free fits fewer b g (later || seals k) d.0 x mid taken (left ++ rest) before (mid_low n fits later k mid z left rest after h),
      lower n free fits fewer b k later d.1 mid z left rest after h,
    )
lower n free fits fewer b nothing later c x z us rest f h = f
lower n free fits fewer b (choose test g k) later c x z us rest (inl f) h =
    inl (lower n free fits fewer b g later (and_parts (covered free later g) (covered free later k) c).0 x z us rest f h)
lower n free fits fewer b (choose test g k) later c x z us rest (inr f) h =
    inr (lower n free fits fewer b k later (and_parts (covered free later g) (covered free later k) c).1 x z us rest f h)
lower n free fits fewer b (many test g) later c x z us rest (count, turns_taken) h =
    (count, repeats_lower n (room later n) fits g (FitsForm fewer g) (lower n free fits fewer b g later c) count x z us rest turns_taken h)
lower n free fits fewer b (look want test) later c x z us rest f h = f
lower n free fits fewer b (check condition) later c x z us rest f h = f
lower n free fits fewer b (wide w v) later c x z us rest f h = lower n free fits fewer b v later c x z us rest f h

-- the goals that a goal may name as they are
abbrev pub lower_ranks : {Goal : Type 0} → (Goal → ℕ) → Goal → Goal → Bool
lower_ranks rank goal asked = nat_lt (rank asked) (rank goal)

-- A goal that is named as it is has a lower rank, so there are at most `ranks` levels of goals to a node.
pub lower_ranked : {Goal : Type 0} (grammar : Productions Goal) (rank : Goal → ℕ) (ranks : ℕ) → ((goal : Goal) → rank goal < ranks)
    → ((goal : Goal) → covered (lower_ranks rank goal) false (grammar goal) ≡ true)
    → (n m high : ℕ) (goal : Goal) (z : Forest) (us rest : List Token) → high * ranks + rank goal < m
    → FitsGoal grammar n goal z us rest → IsShallow high z → FitsGoal grammar m goal z us rest
unfolding FitsGoal
lower_ranked grammar rank ranks few all zero m high goal z us rest lt f low = absurd f
lower_ranked grammar rank ranks few all (suc n) zero high goal z us rest lt f low = absurd (omega (arith, lt))
lower_ranked grammar rank ranks few all (suc n) (suc m) zero goal z us rest lt f low =
    lower zero (lower_ranks rank goal) (FitsGoal grammar n) (FitsGoal grammar m)
    (record {
      inside = λ asked y us rest g h. absurd h;
      alone = λ asked y us rest is_free g h.
          lower_ranked grammar rank ranks few all n m zero asked y us rest
          (omega (arith, lt, ltb-true (rank asked) (rank goal) is_free)) g h;
    })
    (grammar goal) false (all goal) done z us rest f low
lower_ranked grammar rank ranks few all (suc n) (suc m) (suc high) goal z us rest lt f low =
    lower (suc high) (lower_ranks rank goal) (FitsGoal grammar n) (FitsGoal grammar m)
    (record {
      inside = λ asked y us rest g h.
          lower_ranked grammar rank ranks few all n m high asked y us rest (omega (arith, lt, few asked)) g h;
      alone = λ asked y us rest is_free g h.
          lower_ranked grammar rank ranks few all n m (suc high) asked y us rest
          (omega (arith, lt, ltb-true (rank asked) (rank goal) is_free)) g h;
    })
    (grammar goal) false (all goal) done z us rest f low
