use Rattle.std.proofs.Common.{take, sym, ap, ◌∙◌, subst, arith, inl, inr}
use Rattle.std.proofs.lemmas.Bool.{cases_eq}
use Rattle.std.proofs.lemmas.Option.{slice_get_within, slice_get-get_or, get_or_from_slice_get}
use Rattle.std.specs.BTreeMap.{get}
use Rattle.std.specs.Ordering.{nat_cmp}
use Rattle.std.specs.Prelude.{slice_get}
use Rattle.ssr_facts.specs.declared.scopes.Scope.{Scope}
use Rattle.ssr_facts.specs.Private.Scopes.{IsKept}
use Rattle.ssr_facts.proofs.Lists.{take_one}
use Rattle.ssr_facts.proofs.kept.keep_begun.Goals as goal

-- a scope, for places at which there is none
abbrev none : Scope
none = record { start = 0; end = 0; number = 0 }

pub loop-past-preserved : goal.loop-past-preserved
loop-past-preserved c =
    let scopes = c.args.scopes.now in
    let past = c.loop-past.past in
    let known = c.loop-past.invariant in
    record {
      behind = omega (arith, known.behind);
      within = omega arith;
      kept = λ before.
          subst (IsKept (get nat_cmp c.keep.new.kept)) (sym (take_one scopes past _ (slice_get-get_or scopes past _ (omega arith)))) (c.in_ok-keep.ensures (take past scopes) (known.kept before));
      begun = λ k v from below is. elim (cases_eq k past) [
        | inl same ↦ omega (arith, ap (λ (u : Scope). u.start) (get_or_from_slice_get scopes past v none (ap (slice_get scopes) (sym same) ∙ is)), c.if-scopes-past.true)
        | inr other ↦ known.begun k v from (omega arith) is
      ];
    }

pub returns-else-scopes-past-clause-waiting : goal.returns-else-scopes-past-clause-waiting
returns-else-scopes-past-clause-waiting c =
    λ v is. omega (arith, ap (λ (u : Scope). u.start) (get_or_from_slice_get c.args.scopes.now c.loop-past.past v none is), c.if-scopes-past.false)

pub returns-after-loop-past-clause-waiting : goal.returns-after-loop-past-clause-waiting
returns-after-loop-past-clause-waiting c = λ v is. let lt = slice_get_within c.args.scopes.now c.loop-past.past v is in absurd (omega (arith, lt))
