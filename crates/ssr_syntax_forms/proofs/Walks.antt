-- One induction over what fits: what is kept by each token, by each node and side by side is kept by forms.
use Rattle.std.proofs.Common.{◌≡◌, ℕ, zero, suc, Bool, true, List, [], ◌∷◌, ◌++◌, length, inl, inr, sym, subst}
use Rattle.ssr_syntax_kinds.specs.declared.kinds.SyntaxKind.{SyntaxKind}
use Rattle.ssr_syntax_forms.specs.declared.tokens.Token.{Token}
use Rattle.ssr_syntax_forms.specs.Trees.{Forest, done, leaf, tree, join}
use Rattle.ssr_syntax_forms.specs.Forms.{Form, one, child, mark, seal, ◌then◌, nothing, choose, many, look, check, wide, is_one, more, taken_as, Productions}
use Rattle.ssr_syntax_forms.proofs.Nested.{FitsBelow, Step, Repeats, FitsForm, FitsGoal, ends_at}

-- The law relates what was made before, what is made then, the tokens that are taken, and those behind them.
pub record IsKept (law : Step) : Type 0 where
  pub token : (whole : Bool) (ks : List SyntaxKind) (t : Token) (us rest : List Token)
      → is_one whole ks t ≡ true → more whole t ≡ length us → law done (leaf (taken_as whole t) (t ∷ us) done) (t ∷ us) rest
  pub node : (kind : SyntaxKind) (x : Forest) (rest : List Token) → law x (tree kind x done) [] rest
  pub beside : (x y : Forest) (us rest : List Token) → law done y us rest → law x (join x y) us rest
  pub stay : (x : Forest) (rest : List Token) → law x x [] rest
  pub over : (x y z : Forest) (us vs rest : List Token) → law x y us (vs ++ rest) → law y z vs rest → law x z (us ++ vs) rest

repeats_walk : (law : Step) → IsKept law → (step : Step)
    → ((x z : Forest) (us rest : List Token) → step x z us rest → law x z us rest)
    → (n : ℕ) (x z : Forest) (us rest : List Token) → Repeats n step x z us rest → law x z us rest
repeats_walk law k step h zero x z us rest (no_tokens_taken, z_is) = ends_at law x z x us [] rest no_tokens_taken z_is (k.stay x rest)
repeats_walk law k step h (suc n) x z us rest (mid, taken, left, us_is, one_turn, turns_left) =
    subst (λ w. law x z w rest) (sym us_is)
    (k.over x mid z taken left rest (h x mid taken (left ++ rest) one_turn) (repeats_walk law k step h n mid z left rest turns_left))

pub walk : {Goal : Type 0} (law : Step) → IsKept law
    → (fits : FitsBelow Goal) → ((asked : Goal) (y : Forest) (us rest : List Token) → fits asked y us rest → law done y us rest)
    → (form : Form Goal) (x z : Forest) (us rest : List Token) → FitsForm fits form x z us rest → law x z us rest
walk law k fits h (one whole ks) x z us rest (front, others, us_is, is, size, z_is) =
    let l : Forest = leaf (taken_as whole front) (front ∷ others) done in
    ends_at law x z (join x l) us (front ∷ others) rest us_is z_is (k.beside x l (front ∷ others) rest (k.token whole ks front others rest is size))
walk law k fits h (child asked) x z us rest (y, y_fits, z_is) =
    subst (λ w. law x w us rest) (sym z_is) (k.beside x y us rest (h asked y us rest y_fits))
walk law k fits h (mark g) x z us rest (y, y_fits, z_is) =
    subst (λ w. law x w us rest) (sym z_is) (k.beside x y us rest (walk law k fits h g done y us rest y_fits))
walk law k fits h (seal kind) x z us rest (no_tokens_taken, z_is) =
    ends_at law x z (tree kind x done) us [] rest no_tokens_taken z_is (k.node kind x rest)
walk law k fits h (g then j) x z us rest (mid, taken, left, us_is, before, after) =
    subst (λ w. law x z w rest) (sym us_is)
    (k.over x mid z taken left rest (walk law k fits h g x mid taken (left ++ rest) before) (walk law k fits h j mid z left rest after))
walk law k fits h nothing x z us rest (no_tokens_taken, z_is) = ends_at law x z x us [] rest no_tokens_taken z_is (k.stay x rest)
walk law k fits h (choose test g j) x z us rest (inl f) = walk law k fits h g x z us rest f
walk law k fits h (choose test g j) x z us rest (inr f) = walk law k fits h j x z us rest f
walk law k fits h (many test g) x z us rest (count, turns_taken) =
    repeats_walk law k (FitsForm fits g) (walk law k fits h g) count x z us rest turns_taken
walk law k fits h (look want test) x z us rest (no_tokens_taken, z_is, _) = ends_at law x z x us [] rest no_tokens_taken z_is (k.stay x rest)
walk law k fits h (check condition) x z us rest (no_tokens_taken, z_is, _) = ends_at law x z x us [] rest no_tokens_taken z_is (k.stay x rest)
walk law k fits h (wide f g) x z us rest fit = walk law k fits h g x z us rest fit

pub walk_goals : {Goal : Type 0} (law : Step) → IsKept law → (grammar : Productions Goal)
    → (n : ℕ) (asked : Goal) (y : Forest) (us rest : List Token) → FitsGoal grammar n asked y us rest → law done y us rest
unfolding FitsGoal
walk_goals law k grammar zero asked y us rest f = absurd f
walk_goals law k grammar (suc n) asked y us rest f =
    walk law k (FitsGoal grammar n) (walk_goals law k grammar n) (grammar asked) done y us rest f
