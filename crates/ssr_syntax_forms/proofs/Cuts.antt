-- With fewer levels, the same is read, or the answer is that it is too deep.
use Rattle.std.proofs.Common.{◌≡◌, ℕ, zero, suc, ◌+◌, ◌≤◌, List, length, Result, Ok, Err, ◌⊎◌, inl, inr, refl, ap, ◌∙◌, arith}
use Rattle.std.proofs.lemmas.Bool.{cases_Bool}
use Rattle.ssr_syntax_forms.specs.declared.tokens.Token.{Token}
use Rattle.ssr_syntax_forms.specs.declared.fault.Fault.{Fault}
use Rattle.ssr_syntax_forms.specs.declared.fault.Fault.TheVariants as faults
use Rattle.ssr_syntax_forms.specs.Trees.{done}
use Rattle.ssr_syntax_forms.specs.Forms.{Productions, Form, one, child, mark, seal, ◌then◌, nothing, choose, many, look, check, wide, Test, passes, SoFar, so_far, ReadsBelow, read, repeat, beside, ◌>>=◌}
use Rattle.ssr_syntax_forms.specs.Levels.{read_goal}

abbrev pub IsCut : Result SoFar Fault → Result SoFar Fault → Type 0
IsCut fewer more = (fewer ≡ Err faults.TooDeep) ⊎ (fewer ≡ more)

abbrev pub Cuts : {Goal : Type 0} → ReadsBelow Goal → ReadsBelow Goal → Type 0
Cuts {Goal = Goal} fewer more = (goal : Goal) (ts : List Token) → IsCut (fewer goal ts) (more goal ts)

bind_cut : (a b : Result SoFar Fault) (f g : SoFar → Result SoFar Fault) → IsCut a b → ((q : SoFar) → IsCut (f q) (g q))
    → IsCut (a >>= f) (b >>= g)
bind_cut a b f g (inl e) h = inl (ap (λ w. w >>= f) e)
bind_cut (Ok q) b f g (inr e) h =
    elim (h q) [
      | inl d ↦ inl d
      | inr d ↦ inr (d ∙ ap (λ w. w >>= g) e)
    ]
bind_cut (Err x) b f g (inr e) h = inr (ap (λ w. w >>= g) e)

beside_cut : (x : _) (a b : Result SoFar Fault) → IsCut a b → IsCut (beside x a) (beside x b)
beside_cut x a b (inl e) = inl (ap (beside x) e)
beside_cut x a b (inr e) = inr (ap (beside x) e)

repeat_cut : (test : Test) (f g : SoFar → Result SoFar Fault) → ((q : SoFar) → IsCut (f q) (g q)) → (n : ℕ) (r : SoFar)
    → IsCut (repeat (λ s. s.rest) n test f r) (repeat (λ s. s.rest) n test g r)
repeat_cut test f g h zero r = inr refl
repeat_cut test f g h (suc n) r =
    elim (cases_Bool (passes test r.rest)) [
      | inl hit ↦ rw hit (bind_cut (f r) (g r) (repeat (λ s. s.rest) n test f) (repeat (λ s. s.rest) n test g) (h r) (repeat_cut test f g h n))
      | inr miss ↦ rw miss (inr refl)
    ]

pub read_cut : {Goal : Type 0} (fewer more : ReadsBelow Goal) → Cuts fewer more → (form : Form Goal) (r : SoFar) → IsCut (read fewer form r) (read more form r)
read_cut fewer more h (one whole ks) r = inr refl
read_cut fewer more h (child goal) r = beside_cut r.made (fewer goal r.rest) (more goal r.rest) (h goal r.rest)
read_cut fewer more h (mark f) r =
    beside_cut r.made (read fewer f (so_far done r.rest)) (read more f (so_far done r.rest)) (read_cut fewer more h f (so_far done r.rest))
read_cut fewer more h (seal kind) r = inr refl
read_cut fewer more h (f then g) r =
    bind_cut (read fewer f r) (read more f r) (read fewer g) (read more g) (read_cut fewer more h f r) (read_cut fewer more h g)
read_cut fewer more h nothing r = inr refl
read_cut fewer more h (choose test f g) r =
    elim (cases_Bool (passes test r.rest)) [
      | inl hit ↦ rw hit (read_cut fewer more h f r)
      | inr miss ↦ rw miss (read_cut fewer more h g r)
    ]
read_cut fewer more h (many test f) r =
    repeat_cut test (read fewer f) (read more f) (read_cut fewer more h f) (length r.rest + 1) r
read_cut fewer more h (look want test) r = inr refl
read_cut fewer more h (check condition) r = inr refl
read_cut fewer more h (wide f g) r = read_cut fewer more h g r

pub cut_goals : {Goal : Type 0} (grammar : Productions Goal) (n m : ℕ) → n ≤ m → Cuts (read_goal grammar n) (read_goal grammar m)
unfolding read_goal
cut_goals grammar zero m le goal ts = inl refl
cut_goals grammar (suc n) zero le goal ts = absurd (omega (arith, le))
cut_goals grammar (suc n) (suc m) le goal ts =
    read_cut (read_goal grammar n) (read_goal grammar m) (cut_goals grammar n m (omega (arith, le))) (grammar goal) (so_far done ts)
