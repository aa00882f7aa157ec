-- What the parser's functions write is what the tree that is read writes.
use Rattle.std.proofs.Common.{◌≡◌, ℕ, zero, suc, ◌+◌, ◌-◌, Bool, false, if◌then◌else◌, List, ◌∷◌, ◌++◌, length, take, Result, Ok, Err, ◌⊎◌, inl, inr, refl, sym, ap, subst, ◌∙◌, arith}
use Rattle.std.proofs.lemmas.Bool.{cases_Bool}
use Rattle.std.proofs.lemmas.List.{length-append, length-take-le}
use Rattle.std.proofs.Math.Seq.{take-append_seam}
use Rattle.ssr_syntax_kinds.specs.declared.kinds.SyntaxKind.{SyntaxKind}
use Rattle.ssr_syntax_forms.specs.declared.tokens.Token.{Token}
use Rattle.ssr_syntax_forms.specs.declared.fault.Fault.{Fault}
use Rattle.ssr_syntax_forms.specs.Trees.{Forest, done, spell}
use Rattle.ssr_syntax_forms.specs.Parser.{Written, token_written, State, state_of, Mark, mark_at, took, repeated}
use Rattle.ssr_syntax_forms.specs.Written.{writes}
use Rattle.ssr_syntax_forms.specs.Forms.{Form, one, child, mark, seal, ◌then◌, nothing, choose, many, look, check, wide, Test, more, taken_as, passes, agrees, holds, SoFar, so_far, ReadsBelow, read, past, first_leaf, repeat, beside, ◌>>=◌}
use Rattle.ssr_syntax_forms.specs.Runs.{RunsBelow, run}
use Rattle.ssr_syntax_forms.proofs.Joins.{writes-join}
use Rattle.ssr_syntax_forms.proofs.Soundness.{past_ok}
use Rattle.ssr_syntax_forms.proofs.Spelling.{ReadsSpelled, read_spelled}

-- what is written so far, and then what is read
abbrev pub emit : Written → Result SoFar Fault → Result State Fault
emit out (Ok r) = Ok (state_of (writes r.made out) r.rest)
emit out (Err e) = Err e

-- what is run in the stated language is what is read
pub record RunsAsRead {Goal : Type 0} (runs : RunsBelow Goal) (below : ReadsBelow Goal) : Type 0 where
  pub stated : runs.is_whole ≡ false
  pub as_read : (goal : Goal) (out : Written) (ts : List Token) → runs.runs goal (state_of out ts) ≡ emit out (below goal ts)

-- either answer
pub answer : {A : Type 0} (r : Result A Fault) → ((x : A) × (r ≡ Ok x)) ⊎ ((e : Fault) × (r ≡ Err e))
answer (Ok x) = inl (x, refl)
answer (Err e) = inr (e, refl)

emit-beside : (out : Written) (x : Forest) (q : Result SoFar Fault) → emit (writes x out) q ≡ emit out (beside x q)
emit-beside out x (Ok y) = ap (λ w. Ok (state_of w y.rest)) (sym (writes-join x y.made out))
emit-beside out x (Err e) = refl

-- the token in front is written as its leaf
took_leaf : (whole : Bool) (ks : List SyntaxKind) (ts rest : List Token) (out : Written) → past whole ks ts ≡ Ok rest
    → took whole ts out ≡ writes (first_leaf whole ts) out
took_leaf whole ks ts rest out e =
    let p = past_ok whole ks ts rest e in
    let t : Token = p.0 in
    let size : 1 + more whole t ≡ length (t ∷ take (more whole t) p.1) = omega (arith, length-take-le (more whole t) p.1 p.4) in
    subst (λ w. took whole w out ≡ writes (first_leaf whole w) out) (sym p.2) (ap (λ n. token_written (taken_as whole t) n out) size)

-- the state behind what is read
abbrev pub after : Written → SoFar → State
after out r = state_of (writes r.made out) r.rest

since : (start us rest : List Token) → start ≡ us ++ rest → take (length start - length rest) start ≡ us
since start us rest e =
    let n : length start - length rest ≡ length us = omega (arith, ap length e, length-append us rest) in
    rw (n, e) (take-append_seam us rest)

-- one step after another
then_agrees : (out : Written) (ran : Result State Fault) (red : Result SoFar Fault)
    (next : State → Result State Fault) (go : SoFar → Result SoFar Fault)
    → ran ≡ emit out red → ((q : SoFar) → red ≡ Ok q → next (after out q) ≡ emit out (go q))
    → (ran >>= next) ≡ emit out (red >>= go)
then_agrees out ran (Ok q) next go e h = ap (λ w. w >>= next) e ∙ h q refl
then_agrees out ran (Err f) next go e h = ap (λ w. w >>= next) e

repeats_agree : (out : Written) (start : List Token) (test : Test) (ran : State → Result State Fault) (red : SoFar → Result SoFar Fault)
    → ((r : SoFar) → start ≡ spell r.made ++ r.rest → ran (after out r) ≡ emit out (red r))
    → ((r s : SoFar) → red r ≡ Ok s → spell r.made ++ r.rest ≡ spell s.made ++ s.rest)
    → (n : ℕ) (r : SoFar) → start ≡ spell r.made ++ r.rest
    → repeat (λ z. z.rest) n test ran (after out r) ≡ emit out (repeat (λ z. z.rest) n test red r)
repeats_agree out start test ran red h k zero r e = refl
repeats_agree out start test ran red h k (suc n) r e =
    elim (cases_Bool (passes test r.rest)) [
      | inl hit ↦ rw hit
          (then_agrees out (ran (after out r)) (red r) (repeat (λ z. z.rest) n test ran) (repeat (λ z. z.rest) n test red) (h r e)
          (λ q d. repeats_agree out start test ran red h k n q (e ∙ k r q d)))
      | inr miss ↦ rw miss refl
    ]

pub agree : {Goal : Type 0} (runs : RunsBelow Goal) (below : ReadsBelow Goal) → RunsAsRead runs below → ReadsSpelled below
    → (form : Form Goal) (out : Written) (start : List Token) (r : SoFar) → start ≡ spell r.made ++ r.rest
    → run runs form (mark_at out start) (after out r) ≡ emit out (read below form r)
unfolding repeated
agree runs below h k (one whole ks) out start r e =
    elim (answer (past whole ks r.rest)) [
      | inl p ↦ rw p.1
          (ap (λ w. Ok (state_of w p.0))
          (took_leaf whole ks r.rest p.0 (writes r.made out) p.1 ∙ sym (writes-join r.made (first_leaf whole r.rest) out)))
      | inr p ↦ rw p.1 refl
    ]
agree runs below h k (child goal) out start r e =
    h.as_read goal (writes r.made out) r.rest ∙ emit-beside out r.made (below goal r.rest)
agree runs below h k (mark f) out start r e =
    agree runs below h k f (writes r.made out) r.rest (so_far done r.rest) refl
    ∙ emit-beside out r.made (read below f (so_far done r.rest))
agree runs below h k (seal kind) out start r e = refl
agree runs below h k (f then g) out start r e =
    let m : Mark = mark_at out start in
    then_agrees out (run runs f m (after out r)) (read below f r) (run runs g m) (read below g)
    (agree runs below h k f out start r e)
    (λ q d. agree runs below h k g out start q (e ∙ read_spelled below k f r q d))
agree runs below h k nothing out start r e = refl
agree runs below h k (choose test f g) out start r e =
    elim (cases_Bool (passes test r.rest)) [
      | inl hit ↦ rw hit (agree runs below h k f out start r e)
      | inr miss ↦ rw miss (agree runs below h k g out start r e)
    ]
agree runs below h k (many test f) out start r e =
    repeats_agree out start test (run runs f (mark_at out start)) (read below f)
    (λ q d. agree runs below h k f out start q d) (read_spelled below k f) (length r.rest + 1) r e
agree runs below h k (look want test) out start r e =
    elim (cases_Bool (agrees want (passes test r.rest))) [ inl hit ↦ rw hit refl | inr miss ↦ rw miss refl ]
agree runs below h k (check condition) out start r e =
    rw (since start (spell r.made) r.rest e)
    (elim (cases_Bool (holds condition (spell r.made))) [ inl hit ↦ rw hit refl | inr miss ↦ rw miss refl ])
agree runs below h k (wide f g) out start r e =
    ap (λ b. if b then run runs f (mark_at out start) (after out r) else run runs g (mark_at out start) (after out r)) h.stated
    ∙ agree runs below h k g out start r e
