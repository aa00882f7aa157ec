-- What fits a goal is one node.
use Rattle.std.proofs.Common.{◌≡◌, ℕ, zero, suc, true, ◌&&◌, ◌||◌, List, ◌++◌, sym, subst, inl, inr}
use Rattle.std.proofs.lemmas.Bool.{and_parts, or_cases}
use Rattle.ssr_syntax_kinds.specs.declared.kinds.SyntaxKind.{SyntaxKind}
use Rattle.ssr_syntax_forms.specs.declared.tokens.Token.{Token}
use Rattle.ssr_syntax_forms.specs.Trees.{Forest, done, tree}
use Rattle.ssr_syntax_forms.specs.Forms.{Productions, Form, one, child, mark, seal, ◌then◌, nothing, choose, many, look, check, wide}
use Rattle.ssr_syntax_forms.proofs.Nested.{FitsBelow, Step, Repeats, FitsForm, FitsGoal}
use Rattle.ssr_syntax_forms.proofs.Check.{ends_sealed, stays_node, only_looks, makes_node}

abbrev pub IsNode : Forest → Type 0
IsNode z = (kind : SyntaxKind) × (kids : Forest) × (z ≡ tree kind kids done)

sealed : {Goal : Type 0} (fits : FitsBelow Goal) (form : Form Goal) → ends_sealed form ≡ true → (x z : Forest) (us rest : List Token) → FitsForm fits form x z us rest → IsNode z
sealed fits (one whole ks) e x z us rest f = cc
sealed fits (child goal) e x z us rest f = cc
sealed fits (mark form) e x z us rest f = cc
sealed fits (seal kind) e x z us rest f = (kind, x, f.1)
sealed fits (g then k) e x z us rest f = sealed fits k e f.0 z f.2 rest f.5
sealed fits nothing e x z us rest f = cc
sealed fits (choose test g k) e x z us rest (inl f) = sealed fits g (and_parts (ends_sealed g) (ends_sealed k) e).0 x z us rest f
sealed fits (choose test g k) e x z us rest (inr f) = sealed fits k (and_parts (ends_sealed g) (ends_sealed k) e).1 x z us rest f
sealed fits (many test form) e x z us rest f = cc
sealed fits (look want test) e x z us rest f = cc
sealed fits (check condition) e x z us rest f = cc
sealed fits (wide w v) e x z us rest f = sealed fits v e x z us rest f

repeats_node : (step : Step) → ((x z : Forest) (us rest : List Token) → step x z us rest → IsNode z)
    → (n : ℕ) (x z : Forest) (us rest : List Token) → IsNode x → Repeats n step x z us rest → IsNode z
repeats_node step h zero x z us rest node f = subst IsNode (sym f.1) node
repeats_node step h (suc n) x z us rest node f = repeats_node step h n f.0 z f.2 rest (h x f.0 f.1 (f.2 ++ rest) f.4) f.5

stays : {Goal : Type 0} (fits : FitsBelow Goal) (form : Form Goal) → stays_node form ≡ true → (x z : Forest) (us rest : List Token) → IsNode x → FitsForm fits form x z us rest → IsNode z
stays fits (one whole ks) e x z us rest node f = cc
stays fits (child goal) e x z us rest node f = cc
stays fits (mark form) e x z us rest node f = cc
stays fits (seal kind) e x z us rest node f = (kind, x, f.1)
stays fits (g then k) e x z us rest node f =
    elim (or_cases (ends_sealed k) (stays_node g && stays_node k) e) [
      | inl s ↦ sealed fits k s f.0 z f.2 rest f.5
      | inr b ↦ let r = and_parts (stays_node g) (stays_node k) b in
          stays fits k r.1 f.0 z f.2 rest (stays fits g r.0 x f.0 f.1 (f.2 ++ rest) node f.4) f.5
    ]
stays fits nothing e x z us rest node f = subst IsNode (sym f.1) node
stays fits (choose test g k) e x z us rest node (inl f) = stays fits g (and_parts (stays_node g) (stays_node k) e).0 x z us rest node f
stays fits (choose test g k) e x z us rest node (inr f) = stays fits k (and_parts (stays_node g) (stays_node k) e).1 x z us rest node f
stays fits (many test form) e x z us rest node f = repeats_node (FitsForm fits form) (sealed fits form e) f.0 x z us rest node f.1
stays fits (look want test) e x z us rest node f = subst IsNode (sym f.1) node
stays fits (check condition) e x z us rest node f = subst IsNode (sym f.1) node
stays fits (wide w v) e x z us rest node f = stays fits v e x z us rest node f

-- a tree of a goal is one node
abbrev pub AreNodes : {Goal : Type 0} → FitsBelow Goal → Type 0
AreNodes {Goal = Goal} fits = (goal : Goal) (y : Forest) (us rest : List Token) → fits goal y us rest → IsNode y

looked : {Goal : Type 0} (fits : FitsBelow Goal) (form : Form Goal) → only_looks form ≡ true → (x z : Forest) (us rest : List Token) → FitsForm fits form x z us rest → x ≡ z
looked fits (look want test) e x z us rest f = sym f.1
looked fits (one whole ks) e x z us rest f = cc
looked fits (child goal) e x z us rest f = cc
looked fits (mark form) e x z us rest f = cc
looked fits (seal kind) e x z us rest f = cc
looked fits (g then k) e x z us rest f = cc
looked fits nothing e x z us rest f = cc
looked fits (choose test g k) e x z us rest f = cc
looked fits (many test form) e x z us rest f = cc
looked fits (check condition) e x z us rest f = cc
looked fits (wide w v) e x z us rest f = looked fits v e x z us rest f

pub makes : {Goal : Type 0} (fits : FitsBelow Goal) → AreNodes fits → (form : Form Goal) → makes_node form ≡ true → (z : Forest) (us rest : List Token) → FitsForm fits form done z us rest → IsNode z
makes fits h (one whole ks) e z us rest f = cc
makes fits h (child goal) e z us rest f = subst IsNode (sym f.2) (h goal f.0 us rest f.1)
makes fits h (mark form) e z us rest f =
    subst IsNode (sym f.2)
    (elim (or_cases (ends_sealed form) (makes_node form) e) [
      | inl s ↦ sealed fits form s done f.0 us rest f.1
      | inr m ↦ makes fits h form m f.0 us rest f.1
    ])
makes fits h (seal kind) e z us rest f = (kind, done, f.1)
makes fits h (g then k) e z us rest f =
    elim (or_cases (ends_sealed k || (makes_node g && stays_node k)) (only_looks g && makes_node k) e) [
      | inl d ↦ elim (or_cases (ends_sealed k) (makes_node g && stays_node k) d) [
        | inl s ↦ sealed fits k s f.0 z f.2 rest f.5
        | inr b ↦ let r = and_parts (makes_node g) (stays_node k) b in
            stays fits k r.1 f.0 z f.2 rest (makes fits h g r.0 f.0 f.1 (f.2 ++ rest) f.4) f.5
      ]
      | inr b ↦ let r = and_parts (only_looks g) (makes_node k) b in
          makes fits h k r.1 z f.2 rest (subst (λ x. FitsForm fits k x z f.2 rest) (sym (looked fits g r.0 done f.0 f.1 (f.2 ++ rest) f.4)) f.5)
    ]
makes fits h nothing e z us rest f = cc
makes fits h (choose test g k) e z us rest (inl f) = makes fits h g (and_parts (makes_node g) (makes_node k) e).0 z us rest f
makes fits h (choose test g k) e z us rest (inr f) = makes fits h k (and_parts (makes_node g) (makes_node k) e).1 z us rest f
makes fits h (many test form) e z us rest f = cc
makes fits h (look want test) e z us rest f = cc
makes fits h (check condition) e z us rest f = cc
makes fits h (wide w v) e z us rest f = makes fits h v e z us rest f

pub goals_lone : {Goal : Type 0} (grammar : Productions Goal) → ((goal : Goal) → makes_node (grammar goal) ≡ true) → (n : ℕ)
    → AreNodes (FitsGoal grammar n)
unfolding FitsGoal
goals_lone grammar all zero goal z us rest f = absurd f
goals_lone grammar all (suc n) goal z us rest f =
    makes (FitsGoal grammar n) (goals_lone grammar all n) (grammar goal) (all goal) z us rest f
