-- What fits a form is made of the tokens that it takes.
use Rattle.std.proofs.Common.{◌≡◌, List, ◌∷◌, ◌++◌, Ok, refl, sym, ap, ◌∙◌, append_assoc}
use Rattle.std.proofs.lemmas.List.{append-nil}
use Rattle.ssr_syntax_forms.specs.declared.tokens.Token.{Token}
use Rattle.ssr_syntax_forms.specs.Trees.{Forest, spell}
use Rattle.ssr_syntax_forms.specs.Forms.{Form, SoFar, ReadsBelow, read}
use Rattle.ssr_syntax_forms.proofs.Nested.{FitsBelow, FitsForm}
use Rattle.ssr_syntax_forms.proofs.Joins.{spell-join}
use Rattle.ssr_syntax_forms.proofs.Soundness.{sound}
use Rattle.ssr_syntax_forms.proofs.Walks.{IsKept, walk}

abbrev pub Spells : {Goal : Type 0} → FitsBelow Goal → Type 0
Spells {Goal = Goal} fits = (goal : Goal) (y : Forest) (us rest : List Token) → fits goal y us rest → spell y ≡ us

keeps_spelled : IsKept (λ x z us rest. spell z ≡ spell x ++ us)
keeps_spelled = record {
  token = λ whole ks t us rest is n. append-nil (t ∷ us);
  node = λ kind x rest. refl;
  beside = λ x y us rest h. spell-join x y ∙ ap (λ w. spell x ++ w) h;
  stay = λ x rest. sym (append-nil (spell x));
  over = λ x y z us vs rest h k. k ∙ ap (λ w. w ++ vs) h ∙ append_assoc (spell x) us vs;
}

pub spelled : {Goal : Type 0} (fits : FitsBelow Goal) → Spells fits
    → (form : Form Goal) (x z : Forest) (us rest : List Token) → FitsForm fits form x z us rest → spell z ≡ spell x ++ us
spelled fits h form x z us rest f =
    walk (λ x z us rest. spell z ≡ spell x ++ us) keeps_spelled fits h form x z us rest f

-- what a goal's reading makes is spelled by the tokens that it takes
abbrev pub ReadsSpelled : {Goal : Type 0} → ReadsBelow Goal → Type 0
ReadsSpelled {Goal = Goal} below = (goal : Goal) (ts : List Token) (r : SoFar) → below goal ts ≡ Ok r → ts ≡ spell r.made ++ r.rest

pub read_spelled : {Goal : Type 0} (below : ReadsBelow Goal) → ReadsSpelled below
    → (form : Form Goal) (r s : SoFar) → read below form r ≡ Ok s → spell r.made ++ r.rest ≡ spell s.made ++ s.rest
read_spelled {Goal = Goal} below h form r s e =
    let fits : FitsBelow Goal = λ goal y us rest. spell y ≡ us in
    let k = sound fits below (λ goal ts q d. (spell q.made, h goal ts q d, refl)) form r s e in
    ap (λ w. spell r.made ++ w) k.1 ∙ sym (append_assoc (spell r.made) k.0 s.rest)
    ∙ ap (λ w. w ++ s.rest) (sym (spelled fits (λ goal y us rest d. d) form r.made s.made k.0 s.rest k.2))
