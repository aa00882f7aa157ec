-- What fits before some tokens fits before others, if no look on the way tells these from those.
use Rattle.std.proofs.Common.{◌≡◌, Bool, true, ◌&&◌, ◌||◌, List, ◌++◌, inl, inr, sym, ap, subst, ◌∙◌, append_assoc}
use Rattle.std.proofs.lemmas.Bool.{and_parts, or_cases}
use Rattle.ssr_syntax_forms.specs.declared.tokens.Token.{Token}
use Rattle.ssr_syntax_forms.specs.Trees.{Forest, done}
use Rattle.ssr_syntax_forms.specs.Forms.{Form, Test, one, child, mark, seal, ◌then◌, nothing, choose, many, look, check, wide, Productions, agrees, passes}
use Rattle.ssr_syntax_forms.specs.Fitting.{Fits, token, goal, marked, sealed, behind, none, first, second, stop, turn, looked, checked, stated}

-- Each look in the form passes, and so does each goal that it asks for. What is told by `passed` is passed over.
abbrev pub looks : {Goal : Type 0} → (Test → Bool) → (Goal → Bool) → (Form Goal → Bool) → Form Goal → Bool
looks ok near passed (one whole ks) = true
looks ok near passed (child asked) = near asked
looks ok near passed (mark f) = looks ok near passed f
looks ok near passed (seal kind) = true
looks ok near passed (f then g) = passed (f then g) || (looks ok near passed f && looks ok near passed g)
looks ok near passed nothing = true
looks ok near passed (choose test f g) = looks ok near passed f && looks ok near passed g
looks ok near passed (many test f) = looks ok near passed f
looks ok near passed (look want test) = ok test
looks ok near passed (check condition) = true
looks ok near passed (wide f g) = looks ok near passed g

-- looks that pass tell a from b nowhere: `IsSeen` says of which tokens in front of a this is known
pub record SameSight {Goal : Type 0} (grammar : Productions Goal) (ok : Test → Bool) (near : Goal → Bool) (passed : Form Goal → Bool)
    (IsSeen : List Token → Type 0) (a b : List Token) : Type 0 where
  pub agree : (test : Test) (ts : List Token) → ok test ≡ true → IsSeen ts → passes test (ts ++ a) ≡ passes test (ts ++ b)
  pub further : (us ts : List Token) → IsSeen (us ++ ts) → IsSeen ts
  pub known : (asked : Goal) → near asked ≡ true → looks ok near passed (grammar asked) ≡ true
  pub over : (form : Form Goal) (x z : Forest) (us ts : List Token) → passed form ≡ true → IsSeen (us ++ ts)
      → Fits grammar form x z us (ts ++ a) → Fits grammar form x z us (ts ++ b)

-- the tokens ahead, with some more in front
assoc_ahead : (vs ts a rest : List Token) → rest ≡ ts ++ a → vs ++ rest ≡ (vs ++ ts) ++ a
assoc_ahead vs ts a rest e = ap (λ w. vs ++ w) e ∙ sym (append_assoc vs ts a)

pub ahead : {Goal : Type 0} (grammar : Productions Goal) (ok : Test → Bool) (near : Goal → Bool) (passed : Form Goal → Bool)
    (IsSeen : List Token → Type 0) (a b : List Token) → SameSight grammar ok near passed IsSeen a b
    → (form : Form Goal) (x z : Forest) (us rest ts : List Token) → looks ok near passed form ≡ true → rest ≡ ts ++ a → IsSeen (us ++ ts)
    → Fits grammar form x z us rest → Fits grammar form x z us (ts ++ b)
ahead grammar ok near passed IsSeen a b sight (one whole ks) x _ _ rest ts l e seen (token {t = t} {us = us} is n) = token is n
ahead grammar ok near passed IsSeen a b sight (child asked) x _ us rest ts l e seen (goal {y = y} f) =
    goal (ahead grammar ok near passed IsSeen a b sight (grammar asked) done y us rest ts (sight.known asked l) e seen f)
ahead grammar ok near passed IsSeen a b sight (mark f) x _ us rest ts l e seen (marked {y = y} h) =
    marked (ahead grammar ok near passed IsSeen a b sight f done y us rest ts l e seen h)
ahead grammar ok near passed IsSeen a b sight (seal kind) x _ _ rest ts l e seen sealed = sealed
ahead grammar ok near passed IsSeen a b sight (f then g) x z _ rest ts l e seen (behind {y = y} {us = us} {vs = vs} h k) =
    elim (or_cases (passed (f then g)) (looks ok near passed f && looks ok near passed g) l) [
      | inl over ↦ sight.over (f then g) x z (us ++ vs) ts over seen (subst (λ w. Fits grammar (f then g) x z (us ++ vs) w) e (behind h k))
      | inr both ↦
          let halves = and_parts (looks ok near passed f) (looks ok near passed g) both in
          let all : IsSeen (us ++ (vs ++ ts)) = subst IsSeen (append_assoc us vs ts) seen in
          let front = ahead grammar ok near passed IsSeen a b sight f x y us (vs ++ rest) (vs ++ ts) halves.0 (assoc_ahead vs ts a rest e) all h in
          let last = ahead grammar ok near passed IsSeen a b sight g y z vs rest ts halves.1 e (sight.further us (vs ++ ts) all) k in
          behind (subst (λ w. Fits grammar f x y us w) (append_assoc vs ts b) front) last
    ]
ahead grammar ok near passed IsSeen a b sight nothing x _ _ rest ts l e seen none = none
ahead grammar ok near passed IsSeen a b sight (choose test f g) x z us rest ts l e seen (first h) =
    first (ahead grammar ok near passed IsSeen a b sight f x z us rest ts (and_parts (looks ok near passed f) (looks ok near passed g) l).0 e seen h)
ahead grammar ok near passed IsSeen a b sight (choose test f g) x z us rest ts l e seen (second h) =
    second (ahead grammar ok near passed IsSeen a b sight g x z us rest ts (and_parts (looks ok near passed f) (looks ok near passed g) l).1 e seen h)
ahead grammar ok near passed IsSeen a b sight (many test f) x _ _ rest ts l e seen stop = stop
ahead grammar ok near passed IsSeen a b sight (many test f) x z _ rest ts l e seen (turn {y = y} {us = us} {vs = vs} h k) =
    let all : IsSeen (us ++ (vs ++ ts)) = subst IsSeen (append_assoc us vs ts) seen in
    let front = ahead grammar ok near passed IsSeen a b sight f x y us (vs ++ rest) (vs ++ ts) l (assoc_ahead vs ts a rest e) all h in
    let last = ahead grammar ok near passed IsSeen a b sight (many test f) y z vs rest ts l e (sight.further us (vs ++ ts) all) k in
    turn (subst (λ w. Fits grammar f x y us w) (append_assoc vs ts b) front) last
ahead grammar ok near passed IsSeen a b sight (look want test) x _ _ rest ts l e seen (looked h) =
    looked (ap (λ w. agrees want w) (sym (sight.agree test ts l seen) ∙ sym (ap (passes test) e)) ∙ h)
ahead grammar ok near passed IsSeen a b sight (check condition) x _ _ rest ts l e seen (checked h) = checked h
ahead grammar ok near passed IsSeen a b sight (wide f g) x z us rest ts l e seen (stated h) =
    stated (ahead grammar ok near passed IsSeen a b sight g x z us rest ts l e seen h)
