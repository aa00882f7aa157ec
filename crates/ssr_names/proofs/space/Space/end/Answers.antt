use Rattle.std.proofs.Common.{List, sym, subst}
use Rattle.std.proofs.lemmas.Result.{IfOk-weaker}
use Rattle.ssr_names_items.specs.declared.table.Name.{Name}
use Rattle.ssr_names.specs.Lookup.{PathStandsFor}
use Rattle.ssr_names.specs.Private.Answered.{place_of}
use Rattle.ssr_names.proofs.Following.{some_last, none_last}
use Rattle.ssr_names.proofs.space.Space.end.Goals as goal

pub returns : goal.returns
returns c = λ known.
    let place = place_of c.args.path in
    let names = c.args.path.names.now in
    let split = some_last names c.in-Some.name.now (sym c.in-Some.ensures.value) in
    IfOk-weaker c.next.result _ _
    (λ answer means d is. subst (λ (ns : List Name). PathStandsFor c.args.self.now place c.args.path.namespace ns d) (sym split.1) (means d is))
    (c.next.ensures split.0 (known split.0 c.in-Some.name.now split.1))

pub returns-in_default : goal.returns-in_default
returns-in_default c = λ known d is.
    subst (λ (ns : List Name). PathStandsFor c.args.self.now (place_of c.args.path) c.args.path.namespace ns d)
    (sym (none_last c.args.path.names.now (sym c.in_default.ensures.value))) (c.base_meaning.ensures d is)
