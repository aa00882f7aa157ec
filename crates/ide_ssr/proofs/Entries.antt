-- A finder for the rule of a comment: each step gives one, or tells a refusal.
use Rattle.std.proofs.Common.{◌≡◌, List, [], Option, Some, None, Result, Ok, inr, refl, ap, subst}
use Rattle.std.specs.Prelude.{Err, IsSome, IfNone, IfOk}
use Rattle.std.proofs.lemmas.Bool.{false≢true}
use Rattle.ssr_base_trees.specs.declared.ids.FilePosition.{FilePosition}
use Rattle.ssr_base_trees.specs.declared.ids.FileRange.{FileRange}
use Rattle.ssr_base_trees.specs.Meanings.{Meanings}
use Rattle.ssr_base_trees.specs.Workspace.{Workspace}
use Rattle.ide_ssr_refusals.specs.declared.error.SsrError.{SsrError}
use Rattle.ide_ssr_refusals.specs.declared.error.SsrError.TheVariants as errors
use Rattle.ide_ssr_refusals.specs.declared.refusals.Refusal.{Refusal}
use Rattle.ide_ssr_refusals.specs.Refusals.{TellsOf, message_of}
use Rattle.ide_ssr_rules.specs.Rules.{Rule}
use Rattle.ide_ssr_rules.specs.Resolved.{resolved_kinds}
use Rattle.ide_ssr_search.specs.Making.{Makes}
use Rattle.ide_ssr.specs.Adding.{Adds}
use Rattle.ide_ssr.specs.Finder.{FinderWith}
use Rattle.ide_ssr.specs.FromComment.{HasRule, RefusesRule}
use Rattle.ide_ssr.specs.Making.{MakesFinder}

-- a message tells a refusal
told_refusal : {A : Type 0} (error : SsrError) (reading : Result A Refusal) → IsSome (message_of error) → TellsOf error reading → (refusal : Refusal) × (reading ≡ Err refusal)
told_refusal errors.Memory reading message tells = absurd (false≢true message)
told_refusal (errors.Message text) (Err refusal) message tells = (refusal, refl)
told_refusal (errors.Message text) (Ok value) message tells = absurd tells

at_none : {X : Type 0} (found : Option X) (P : Type 0) → P → IfNone found P
at_none None P known = known
at_none (Some x) P known = tt

pub has_rule : {S : Type 0} (meanings : S → Meanings) (w : Workspace) (semantics : S) (position : FilePosition) (restrictions : List FileRange) (rule : Rule)
    (made finder : FinderWith S) (done : Unit {0}) → restrictions ≡ [] → MakesFinder w semantics (Makes w (meanings semantics) position restrictions) (Ok made)
    → Adds made finder (resolved_kinds (meanings made.semantics) made.context.scope rule.names rule.constraints rule.kinds) (Ok done)
    → HasRule meanings w semantics position rule finder
has_rule {S} meanings w semantics position restrictions rule made finder done none makes adds = record {
  made = made;
  makes = subst (λ (rs : List FileRange). MakesFinder w semantics (Makes w (meanings semantics) position rs) (Ok made)) none makes;
  adds =
      subst (λ (s : S). Adds made finder (resolved_kinds (meanings s) made.context.scope rule.names rule.constraints rule.kinds) (Ok tt))
      (ap (λ (f : FinderWith S). f.semantics) makes.2) adds;
}

unresolved : {S : Type 0} (meanings : S → Meanings) (w : Workspace) (semantics : S) (position : FilePosition) (restrictions : List FileRange) (rule : Rule)
    (made finder : FinderWith S) (error : SsrError) → restrictions ≡ [] → MakesFinder w semantics (Makes w (meanings semantics) position restrictions) (Ok made)
    → Adds made finder (resolved_kinds (meanings made.semantics) made.context.scope rule.names rule.constraints rule.kinds) (Err error)
    → IsSome (message_of error) → RefusesRule w (meanings semantics) position rule
unresolved {S} meanings w semantics position restrictions rule made finder error none makes tells message =
    let told = told_refusal error (resolved_kinds (meanings made.semantics) made.context.scope rule.names rule.constraints rule.kinds) message tells in
    inr (
      makes.0,
      told.0,
      subst (λ (rs : List FileRange). Makes w (meanings semantics) position rs (Ok makes.0)) none makes.1,
      subst (λ (f : FinderWith S). resolved_kinds (meanings f.semantics) f.context.scope rule.names rule.constraints rule.kinds ≡ Err told.0) makes.2 told.1,
    )

pub not_added : {S X E : Type 0} (meanings : S → Meanings) (w : Workspace) (semantics : S) (position : FilePosition) (restrictions : List FileRange) (rule : Rule)
    (made finder : FinderWith S) (error : SsrError) (result : Result (Option X) E) → restrictions ≡ []
    → MakesFinder w semantics (Makes w (meanings semantics) position restrictions) (Ok made)
    → Adds made finder (resolved_kinds (meanings made.semantics) made.context.scope rule.names rule.constraints rule.kinds) (Err error)
    → IfOk result (λ _. IsSome (message_of error)) → IfOk result (λ found. IfNone found (RefusesRule w (meanings semantics) position rule))
not_added meanings w semantics position restrictions rule made finder error (Err refused) none makes tells message = tt
not_added meanings w semantics position restrictions rule made finder error (Ok found) none makes tells message =
    at_none found (RefusesRule w (meanings semantics) position rule) (unresolved meanings w semantics position restrictions rule made finder error none makes tells message)
