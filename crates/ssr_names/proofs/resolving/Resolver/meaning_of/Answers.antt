use Rattle.std.proofs.Common.{None, List, inl, inr, subst}
use Rattle.std.proofs.lemmas.Result.{IfOk-weaker}
use Rattle.ssr_names_items.specs.declared.table.Name.{Name}
use Rattle.ssr_names.specs.Lookup.{PathStandsFor, Place}
use Rattle.ssr_names.specs.WholePaths.{whole_path}
use Rattle.ssr_names.proofs.Telling.{if_ok_all}
use Rattle.ssr_names.proofs.resolving.Resolver.meaning_of.Goals as goal

pub returns-then-is_behind_self : goal.returns-then-is_behind_self
returns-then-is_behind_self c = if_ok_all c.behind_self.result _ (λ _ d is. inr (c.is_behind_self.ensures c.if-is_behind_self.true))

pub returns : goal.returns
returns c =
    let spelled = c.args.spelled in
    let place : Place = record { start = spelled.path.now.start; within = spelled.«module»; import = None } in
    IfOk-weaker c.path.result _ _
    (λ _ means d is.
    inl (whole_path d (subst (λ (names : List Name). PathStandsFor c.args.self.now.space.now place spelled.namespace names d) c.deref-2.ensures.value (means d is))))
    c.path.ensures
