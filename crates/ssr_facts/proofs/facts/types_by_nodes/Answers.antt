use Rattle.std.proofs.Common.{map, ap, ◌∙◌}
use Rattle.std.specs.Prelude.{Vec}
use Rattle.std.specs.Global.{Global}
use Rattle.std.proofs.lemmas.Result.{IfOk-weaker}
use Rattle.std.specs.Map.{lookup}
use Rattle.std.specs.Option.{option_map}
use Rattle.ssr_base_trees.specs.declared.ids.TypeId.{TypeId}
use Rattle.ssr_facts_rows.specs.Meanings.{plain_types}
use Rattle.ssr_facts.specs.Nodes.{place_of, same_place}
use Rattle.ssr_facts.specs.Private.Nodes.{at_place}
use Rattle.ssr_facts.proofs.Told.{types_first, and_then_alike}
use Rattle.ssr_facts.proofs.facts.types_by_nodes.Goals as goal

pub returns : goal.returns
returns c =
    IfOk-weaker c.types_of_nodes.result _ _ (λ told found x.
    let types_in = λ (v : Vec TypeId Global). v.items in
    found x
    ∙ and_then_alike (λ place. option_map types_in (at_place c.in_ok-by_place.by_place place)) (λ place. lookup (same_place place) (map plain_types c.args.rows.items))
    (λ place. ap (option_map types_in) (c.in_ok-by_place.ensures place) ∙ types_first c.args.rows.items place)
    (place_of c.args.workspace.now x)) c.types_of_nodes.ensures
