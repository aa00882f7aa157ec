-- What fits a form, as a nest of pairs, and goals by levels: where a form is known, its parts are the fields.
use Rattle.std.proofs.Common.{◌≡◌, ℕ, zero, suc, ◌+◌, ◌≤◌, true, List, [], ◌∷◌, ◌++◌, length, ◌⊎◌, inl, inr, refl, sym, subst, arith}
use Rattle.ssr_syntax_forms.specs.declared.tokens.Token.{Token}
use Rattle.ssr_syntax_forms.specs.Trees.{Forest, done, leaf, tree, join, spell}
use Rattle.ssr_syntax_forms.specs.Fitting as rules
use Rattle.ssr_syntax_forms.specs.Forms.{Form, one, child, mark, seal, ◌then◌, nothing, choose, many, look, check, wide, is_one, more, taken_as, passes, agrees, holds, Productions}
use Rattle.ssr_syntax_forms.specs.Fitting.{token, goal, marked, sealed, behind, none, first, second, stop, turn, looked, checked, stated}

abbrev pub FitsBelow : Type 0 → Type 1
FitsBelow Goal = Goal → Forest → List Token → List Token → Type 0

abbrev pub Step : Type 1
Step = Forest → Forest → List Token → List Token → Type 0

abbrev pub Repeats : ℕ → Step → Step
Repeats zero step x z us rest = (us ≡ []) × (z ≡ x)
Repeats (suc n) step x z us rest =
    (y : Forest) × (vs : List Token) × (ws : List Token)
    × (us ≡ vs ++ ws) × step x y vs (ws ++ rest) × Repeats n step y z ws rest

-- what fits the form, where `below` tells what fits the goals in it
abbrev pub FitsForm : {Goal : Type 0} → FitsBelow Goal → Form Goal → Step
FitsForm below (one whole ks) x z us rest =
    (t : Token) × (vs : List Token)
    × (us ≡ t ∷ vs) × (is_one whole ks t ≡ true) × (more whole t ≡ length vs)
    × (z ≡ join x (leaf (taken_as whole t) (t ∷ vs) done))
FitsForm below (child asked) x z us rest = (y : Forest) × below asked y us rest × (z ≡ join x y)
FitsForm below (mark f) x z us rest = (y : Forest) × FitsForm below f done y us rest × (z ≡ join x y)
FitsForm below (seal kind) x z us rest = (us ≡ []) × (z ≡ tree kind x done)
FitsForm below (f then g) x z us rest =
    (y : Forest) × (vs : List Token) × (ws : List Token)
    × (us ≡ vs ++ ws) × FitsForm below f x y vs (ws ++ rest) × FitsForm below g y z ws rest
FitsForm below nothing x z us rest = (us ≡ []) × (z ≡ x)
FitsForm below (choose test f g) x z us rest = FitsForm below f x z us rest ⊎ FitsForm below g x z us rest
FitsForm below (many test f) x z us rest = (n : ℕ) × Repeats n (FitsForm below f) x z us rest
FitsForm below (look want test) x z us rest = (us ≡ []) × (z ≡ x) × (agrees want (passes test rest) ≡ true)
FitsForm below (check condition) x z us rest = (us ≡ []) × (z ≡ x) × (holds condition (spell x) ≡ true)
FitsForm below (wide f g) x z us rest = FitsForm below g x z us rest

-- the forest is one of the goal, with at most so many levels of goals
unfoldable pub FitsGoal : {Goal : Type 0} → Productions Goal → ℕ → FitsBelow Goal
FitsGoal grammar zero asked z us rest = ⊥
FitsGoal grammar (suc n) asked z us rest = FitsForm (FitsGoal grammar n) (grammar asked) done z us rest

-- ** What fits with some levels fits by the rules.
abbrev Ruled : {Goal : Type 0} → Productions Goal → Form Goal → Step
Ruled grammar form x z us rest = rules.Fits grammar form x z us rest

pub ends_at : (step : Step) (x z z' : Forest) (us us' rest : List Token) → us ≡ us' → z ≡ z' → step x z' us' rest → step x z us rest
ends_at step x z z' us us' rest e d h =
    subst (λ w. step x z w rest) (sym e) (subst (λ w. step x w us' rest) (sym d) h)

repeats_ruled : {Goal : Type 0} (grammar : Productions Goal) (test : _) (form : Form Goal) (step : Step)
    → ((x z : Forest) (us rest : List Token) → step x z us rest → Ruled grammar form x z us rest)
    → (n : ℕ) (x z : Forest) (us rest : List Token) → Repeats n step x z us rest → Ruled grammar (many test form) x z us rest
repeats_ruled grammar test form step h zero x z us rest (no_tokens_taken, z_is) = ends_at (Ruled grammar (many test form)) x z x us [] rest no_tokens_taken z_is stop
repeats_ruled grammar test form step h (suc n) x z us rest (mid, taken, left, us_is, one_turn, turns_left) =
    subst (λ w. Ruled grammar (many test form) x z w rest) (sym us_is)
    (turn (h x mid taken (left ++ rest) one_turn) (repeats_ruled grammar test form step h n mid z left rest turns_left))

pub by_rules : {Goal : Type 0} (grammar : Productions Goal) (fits : FitsBelow Goal)
    → ((asked : Goal) (y : Forest) (us rest : List Token) → fits asked y us rest → Ruled grammar (grammar asked) done y us rest)
    → (form : Form Goal) (x z : Forest) (us rest : List Token) → FitsForm fits form x z us rest → Ruled grammar form x z us rest
by_rules grammar fits h (one whole ks) x z us rest (front, others, us_is, is, size, z_is) =
    ends_at (Ruled grammar (one whole ks)) x z (join x (leaf (taken_as whole front) (front ∷ others) done)) us (front ∷ others) rest us_is z_is (token is size)
by_rules grammar fits h (child asked) x z us rest (y, y_fits, z_is) =
    subst (λ w. Ruled grammar (child asked) x w us rest) (sym z_is) (goal (h asked y us rest y_fits))
by_rules grammar fits h (mark g) x z us rest (y, y_fits, z_is) =
    subst (λ w. Ruled grammar (mark g) x w us rest) (sym z_is) (marked (by_rules grammar fits h g done y us rest y_fits))
by_rules grammar fits h (seal kind) x z us rest (no_tokens_taken, z_is) = ends_at (Ruled grammar (seal kind)) x z (tree kind x done) us [] rest no_tokens_taken z_is sealed
by_rules grammar fits h (g then k) x z us rest (mid, taken, left, us_is, before, after) =
    subst (λ w. Ruled grammar (g then k) x z w rest) (sym us_is)
    (behind (by_rules grammar fits h g x mid taken (left ++ rest) before) (by_rules grammar fits h k mid z left rest after))
by_rules grammar fits h nothing x z us rest (no_tokens_taken, z_is) = ends_at (Ruled grammar nothing) x z x us [] rest no_tokens_taken z_is none
by_rules grammar fits h (choose test g k) x z us rest (inl f) = first (by_rules grammar fits h g x z us rest f)
by_rules grammar fits h (choose test g k) x z us rest (inr f) = second (by_rules grammar fits h k x z us rest f)
by_rules grammar fits h (many test g) x z us rest (count, turns_taken) = repeats_ruled grammar test g (FitsForm fits g) (by_rules grammar fits h g) count x z us rest turns_taken
by_rules grammar fits h (look want test) x z us rest (no_tokens_taken, z_is, passed) = ends_at (Ruled grammar (look want test)) x z x us [] rest no_tokens_taken z_is (looked passed)
by_rules grammar fits h (check condition) x z us rest (no_tokens_taken, z_is, passed) = ends_at (Ruled grammar (check condition)) x z x us [] rest no_tokens_taken z_is (checked passed)
by_rules grammar fits h (wide f g) x z us rest fit = stated (by_rules grammar fits h g x z us rest fit)

pub goals_by_rules : {Goal : Type 0} (grammar : Productions Goal) (n : ℕ) (asked : Goal) (y : Forest) (us rest : List Token)
    → FitsGoal grammar n asked y us rest → Ruled grammar (grammar asked) done y us rest
unfolding FitsGoal
goals_by_rules grammar zero asked y us rest f = absurd f
goals_by_rules grammar (suc n) asked y us rest f =
    by_rules grammar (FitsGoal grammar n) (goals_by_rules grammar n) (grammar asked) done y us rest f

-- ** What fits by the rules fits with some levels.
abbrev pub IsWider : {Goal : Type 0} → FitsBelow Goal → FitsBelow Goal → Type 0
IsWider {Goal = Goal} fits wider = (asked : Goal) (y : Forest) (us rest : List Token) → fits asked y us rest → wider asked y us rest

repeats_widen : (step wider : Step) → ((x z : Forest) (us rest : List Token) → step x z us rest → wider x z us rest)
    → (n : ℕ) (x z : Forest) (us rest : List Token) → Repeats n step x z us rest → Repeats n wider x z us rest
repeats_widen step wider h zero x z us rest f = f
repeats_widen step wider h (suc n) x z us rest (mid, taken, left, us_is, one_turn, turns_left) =
    (mid, taken, left, us_is, h x mid taken (left ++ rest) one_turn, repeats_widen step wider h n mid z left rest turns_left)

pub widen : {Goal : Type 0} (fits wider : FitsBelow Goal) → IsWider fits wider → (form : Form Goal) (x z : Forest) (us rest : List Token)
    → FitsForm fits form x z us rest → FitsForm wider form x z us rest
widen fits wider h (one whole ks) x z us rest f = f
widen fits wider h (child asked) x z us rest (y, y_fits, z_is) = (y, h asked y us rest y_fits, z_is)
widen fits wider h (mark g) x z us rest (y, y_fits, z_is) = (y, widen fits wider h g done y us rest y_fits, z_is)
widen fits wider h (seal kind) x z us rest f = f
widen fits wider h (g then k) x z us rest (mid, taken, left, us_is, before, after) =
    (mid, taken, left, us_is, widen fits wider h g x mid taken (left ++ rest) before, widen fits wider h k mid z left rest after)
widen fits wider h nothing x z us rest f = f
widen fits wider h (choose test g k) x z us rest (inl f) = inl (widen fits wider h g x z us rest f)
widen fits wider h (choose test g k) x z us rest (inr f) = inr (widen fits wider h k x z us rest f)
widen fits wider h (many test g) x z us rest (count, turns_taken) = (count, repeats_widen (FitsForm fits g) (FitsForm wider g) (widen fits wider h g) count x z us rest turns_taken)
widen fits wider h (look want test) x z us rest f = f
widen fits wider h (check condition) x z us rest f = f
widen fits wider h (wide w v) x z us rest f = widen fits wider h v x z us rest f

pub more_levels : {Goal : Type 0} (grammar : Productions Goal) (n m : ℕ) → n ≤ m → IsWider (FitsGoal grammar n) (FitsGoal grammar m)
unfolding FitsGoal
more_levels grammar zero m le asked y us rest f = absurd f
more_levels grammar (suc n) zero le asked y us rest f = absurd (omega (arith, le))
more_levels grammar (suc n) (suc m) le asked y us rest f =
    widen (FitsGoal grammar n) (FitsGoal grammar m) (more_levels grammar n m (omega (arith, le))) (grammar asked) done y us rest f

abbrev pub AtSomeLevel : {Goal : Type 0} → Productions Goal → Form Goal → Step
AtSomeLevel grammar form x z us rest = (n : ℕ) × FitsForm (FitsGoal grammar n) form x z us rest

higher : {Goal : Type 0} (grammar : Productions Goal) (n m : ℕ) → n ≤ m → (form : Form Goal) (x z : Forest) (us rest : List Token)
    → FitsForm (FitsGoal grammar n) form x z us rest → FitsForm (FitsGoal grammar m) form x z us rest
higher grammar n m le form = widen (FitsGoal grammar n) (FitsGoal grammar m) (more_levels grammar n m le) form

-- the goal that a form asks for is one level below
one_below : {Goal : Type 0} (grammar : Productions Goal) (n : ℕ) (asked : Goal) (y : Forest) (us rest : List Token)
    → FitsForm (FitsGoal grammar n) (grammar asked) done y us rest → FitsGoal grammar (suc n) asked y us rest
unfolding FitsGoal
one_below grammar n asked y us rest f = f

behind_levels : {Goal : Type 0} (grammar : Productions Goal) (f g : Form Goal) (x y z : Forest) (us vs rest : List Token)
    → AtSomeLevel grammar f x y us (vs ++ rest) → AtSomeLevel grammar g y z vs rest → AtSomeLevel grammar (f then g) x z (us ++ vs) rest
behind_levels grammar f g x y z us vs rest a b = (
  a.0 + b.0,
  (
    y,
    us,
    vs,
    refl,
    higher grammar a.0 (a.0 + b.0) (omega arith) f x y us (vs ++ rest) a.1,
    higher grammar b.0 (a.0 + b.0) (omega arith) g y z vs rest b.1,
  ),
)

turn_levels : {Goal : Type 0} (grammar : Productions Goal) (test : _) (f : Form Goal) (x y z : Forest) (us vs rest : List Token)
    → AtSomeLevel grammar f x y us (vs ++ rest) → AtSomeLevel grammar (many test f) y z vs rest → AtSomeLevel grammar (many test f) x z (us ++ vs) rest
turn_levels grammar test f x y z us vs rest a b =
    let others = higher grammar b.0 (a.0 + b.0) (omega arith) (many test f) y z vs rest b.1 in (
      a.0 + b.0,
      (
        suc others.0,
        (y, us, vs, refl, higher grammar a.0 (a.0 + b.0) (omega arith) f x y us (vs ++ rest) a.1, others.1),
      ),
    )

pub by_levels : {Goal : Type 0} (grammar : Productions Goal) (form : Form Goal) (x z : Forest) (us rest : List Token)
    → Ruled grammar form x z us rest → AtSomeLevel grammar form x z us rest
by_levels grammar (one whole ks) x _ _ rest (token {t = t} {us = us} is n) = (0, (t, us, refl, is, n, refl))
by_levels grammar (child asked) x _ us rest (goal {y = y} f) =
    let a = by_levels grammar (grammar asked) done y us rest f in
    (suc a.0, (y, one_below grammar a.0 asked y us rest a.1, refl))
by_levels grammar (mark f) x _ us rest (marked {y = y} h) =
    let a = by_levels grammar f done y us rest h in (a.0, (y, a.1, refl))
by_levels grammar (seal kind) x _ _ rest sealed = (0, (refl, refl))
by_levels grammar (f then g) x z _ rest (behind {y = y} {us = us} {vs = vs} h k) =
    behind_levels grammar f g x y z us vs rest (by_levels grammar f x y us (vs ++ rest) h) (by_levels grammar g y z vs rest k)
by_levels grammar nothing x _ _ rest none = (0, (refl, refl))
by_levels grammar (choose test f g) x z us rest (first h) = let a = by_levels grammar f x z us rest h in (a.0, inl a.1)
by_levels grammar (choose test f g) x z us rest (second h) = let a = by_levels grammar g x z us rest h in (a.0, inr a.1)
by_levels grammar (many test f) x _ _ rest stop = (0, (0, (refl, refl)))
by_levels grammar (many test f) x z _ rest (turn {y = y} {us = us} {vs = vs} h k) =
    turn_levels grammar test f x y z us vs rest (by_levels grammar f x y us (vs ++ rest) h) (by_levels grammar (many test f) y z vs rest k)
by_levels grammar (look want test) x _ _ rest (looked h) = (0, (refl, refl, h))
by_levels grammar (check condition) x _ _ rest (checked h) = (0, (refl, refl, h))
by_levels grammar (wide f g) x z us rest (stated h) = by_levels grammar g x z us rest h

pub at_some_level : {Goal : Type 0} (grammar : Productions Goal) (asked : Goal) (y : Forest) (us rest : List Token)
    → Ruled grammar (grammar asked) done y us rest → (n : ℕ) × FitsGoal grammar n asked y us rest
at_some_level grammar asked y us rest f =
    let a = by_levels grammar (grammar asked) done y us rest f in (suc a.0, one_below grammar a.0 asked y us rest a.1)
