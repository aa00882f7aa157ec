-- What is read fits its form.
use Rattle.std.proofs.Common.{◌≡◌, ℕ, zero, suc, ◌+◌, ◌≤◌, nat_le, Bool, true, List, [], ◌∷◌, ◌++◌, length, take, drop, Result, Ok, inl, inr, refl, subst, sym, ap, ◌∙◌, append_assoc}
use Rattle.std.proofs.lemmas.Bool.{leb-true, cases_Bool}
use Rattle.std.proofs.lemmas.List.{take-append-drop, length-take-le}
use Rattle.ssr_syntax_kinds.specs.declared.kinds.SyntaxKind.{SyntaxKind}
use Rattle.ssr_syntax_forms.specs.declared.tokens.Token.{Token}
use Rattle.ssr_syntax_forms.specs.declared.fault.Fault.{Fault}
use Rattle.ssr_syntax_forms.specs.Trees.{Forest, done, join, spell}
use Rattle.ssr_syntax_forms.specs.Forms.{Form, one, child, mark, seal, ◌then◌, nothing, choose, many, look, check, wide, Test, more, is_one, passes, agrees, holds, SoFar, so_far, ReadsBelow, read, past, first_leaf, repeat}
use Rattle.ssr_syntax_forms.proofs.Nested.{FitsBelow, Step, Repeats, FitsForm}
use Rattle.ssr_syntax_forms.proofs.Results.{bind_ok, ok_one}

pub past_ok : (whole : Bool) (ks : List SyntaxKind) (ts rest : List Token) → past whole ks ts ≡ Ok rest
    → (t : Token) × (us : List Token) × (ts ≡ t ∷ us) × (is_one whole ks t ≡ true)
    × (more whole t ≤ length us) × (rest ≡ drop (more whole t) us)
past_ok whole ks [] rest e = cc
past_ok whole ks (t ∷ us) rest e =
    elim (cases_Bool (is_one whole ks t)) [
      | inl hit ↦ elim (cases_Bool (nat_le (more whole t) (length us))) [
        | inl le ↦ (t, us, refl, hit, leb-true (more whole t) (length us) le, sym (ok_one (rw (hit, le) at e)))
        | inr miss ↦ absurd (cc (rw (hit, miss) at e))
      ]
      | inr miss ↦ absurd (cc (rw miss at e))
    ]

-- the reading of each goal fits it
abbrev pub IsSound : {Goal : Type 0} → FitsBelow Goal → ReadsBelow Goal → Type 0
IsSound {Goal = Goal} fits below =
    (goal : Goal) (ts : List Token) (r : SoFar) → below goal ts ≡ Ok r
    → (us : List Token) × (ts ≡ us ++ r.rest) × fits goal r.made us r.rest

-- a step from one state to another takes some tokens
abbrev pub Takes : Step → SoFar → SoFar → Type 0
Takes step r s = (us : List Token) × (r.rest ≡ us ++ s.rest) × step r.made s.made us s.rest

-- two steps, one after another
over : (r q s : SoFar) (us ws : List Token) → r.rest ≡ us ++ q.rest → q.rest ≡ ws ++ s.rest → r.rest ≡ (us ++ ws) ++ s.rest
over r q s us ws e d = e ∙ ap (λ w. us ++ w) d ∙ sym (append_assoc us ws s.rest)

-- one turn, and then the others
turn_before : (step : Step) (n : ℕ) (x y z : Forest) (vs ws mid rest : List Token) → mid ≡ ws ++ rest → step x y vs mid
    → Repeats n step y z ws rest → Repeats (suc n) step x z (vs ++ ws) rest
turn_before step n x y z vs ws mid rest e turn others = (y, vs, ws, refl, subst (step x y vs) e turn, others)

repeat_fits : (step : Step) (test : Test) (f : SoFar → Result SoFar Fault)
    → ((r s : SoFar) → f r ≡ Ok s → Takes step r s)
    → (n : ℕ) (r s : SoFar) → repeat (λ z. z.rest) n test f r ≡ Ok s
    → (us : List Token) × (r.rest ≡ us ++ s.rest) × ((m : ℕ) × Repeats m step r.made s.made us s.rest)
repeat_fits step test f found zero r s e = cc
repeat_fits step test f found (suc n) r s e =
    elim (cases_Bool (passes test r.rest)) [
      | inl hit ↦
          let m = bind_ok (f r) (repeat (λ z. z.rest) n test f) s (rw hit at e) in
          let q = m.0 in
          let turn = found r q m.1 in
          let others = repeat_fits step test f found n q s m.2 in
          let all = turn_before step others.2.0 r.made q.made s.made turn.0 others.0 q.rest s.rest others.1 turn.2 others.2.1 in
          (turn.0 ++ others.0, over r q s turn.0 others.0 turn.1 others.1, (suc others.2.0, all))
      | inr miss ↦
          let same : r ≡ s = ok_one (rw miss at e) in
          ([], ap (λ z. z.rest) same, (zero, (refl, ap (λ z. z.made) (sym same))))
    ]

pub sound : {Goal : Type 0} (fits : FitsBelow Goal) (below : ReadsBelow Goal) → IsSound fits below
    → (form : Form Goal) (r s : SoFar) → read below form r ≡ Ok s → Takes (FitsForm fits form) r s
sound fits below h (one whole ks) r s e =
    let m = bind_ok (past whole ks r.rest) (λ ts. Ok (so_far (join r.made (first_leaf whole r.rest)) ts)) s e in
    let p = past_ok whole ks r.rest m.0 m.1 in
    let t = p.0 in let us = p.1 in
    let vs : List Token = take (more whole t) us in
    subst (λ z. Takes (FitsForm fits (one whole ks)) r z) (ok_one m.2) (
      t ∷ vs,
      p.2 ∙ ap (λ w. t ∷ w) (sym (take-append-drop (more whole t) us) ∙ ap (λ w. vs ++ w) (sym p.5)),
      (t, vs, refl, p.3, sym (length-take-le (more whole t) us p.4), ap (λ w. join r.made (first_leaf whole w)) p.2),
    )
sound fits below h (child goal) r s e =
    let m = bind_ok (below goal r.rest) (λ y. Ok (so_far (join r.made y.made) y.rest)) s e in
    let k = h goal r.rest m.0 m.1 in
    subst (λ z. Takes (FitsForm fits (child goal)) r z) (ok_one m.2) (k.0, k.1, (m.0.made, k.2, refl))
sound fits below h (mark f) r s e =
    let m = bind_ok (read below f (so_far done r.rest)) (λ y. Ok (so_far (join r.made y.made) y.rest)) s e in
    let k = sound fits below h f (so_far done r.rest) m.0 m.1 in
    subst (λ z. Takes (FitsForm fits (mark f)) r z) (ok_one m.2) (k.0, k.1, (m.0.made, k.2, refl))
sound fits below h (seal kind) r s e = ([], ap (λ z. z.rest) (ok_one e), (refl, ap (λ z. z.made) (sym (ok_one e))))
sound fits below h (f then g) r s e =
    let m = bind_ok (read below f r) (read below g) s e in
    let k = sound fits below h f r m.0 m.1 in
    let l = sound fits below h g m.0 s m.2 in (
      k.0 ++ l.0,
      over r m.0 s k.0 l.0 k.1 l.1,
      (m.0.made, k.0, l.0, refl, subst (λ w. FitsForm fits f r.made m.0.made k.0 w) l.1 k.2, l.2),
    )
sound fits below h nothing r s e = ([], ap (λ z. z.rest) (ok_one e), (refl, ap (λ z. z.made) (sym (ok_one e))))
sound fits below h (choose test f g) r s e =
    elim (cases_Bool (passes test r.rest)) [
      | inl hit ↦ let k = sound fits below h f r s (rw hit at e) in (k.0, k.1, inl k.2)
      | inr miss ↦ let k = sound fits below h g r s (rw miss at e) in (k.0, k.1, inr k.2)
    ]
sound fits below h (many test f) r s e =
    repeat_fits (FitsForm fits f) test (read below f) (sound fits below h f) (length r.rest + 1) r s e
sound fits below h (look want test) r s e =
    elim (cases_Bool (agrees want (passes test r.rest))) [
      | inl hit ↦ subst (λ z. Takes (FitsForm fits (look want test)) r z) (ok_one (rw hit at e)) ([], refl, (refl, refl, hit))
      | inr miss ↦ absurd (cc (rw miss at e))
    ]
sound fits below h (check condition) r s e =
    elim (cases_Bool (holds condition (spell r.made))) [
      | inl hit ↦ subst (λ z. Takes (FitsForm fits (check condition)) r z) (ok_one (rw hit at e)) ([], refl, (refl, refl, hit))
      | inr miss ↦ absurd (cc (rw miss at e))
    ]
sound fits below h (wide f g) r s e = sound fits below h g r s e
