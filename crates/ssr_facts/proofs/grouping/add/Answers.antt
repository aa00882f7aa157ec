use Rattle.std.proofs.Common.{[], ◌++◌, ◌∷◌, ap, ◌∙◌}
use Rattle.std.specs.Global.{Global}
use Rattle.std.specs.Option.{option_map_or}
use Rattle.std.specs.Prelude.{Vec}
use Rattle.ssr_facts.proofs.Rows.{group_more, items_or}
use Rattle.ssr_facts.proofs.grouping.add.Goals as goal

pub returns : goal.returns
returns g c =
    group_more g.met.K.Ord.total c.args.groups.now c.remove.new.self c.insert.new.self c.args.key c.push.new.self c.args.value
    c.remove.ensures.updates.0 c.in_ok-insert.ensures.updates.0
    (c.in_ok-push.ensures.items
    ∙ ap (λ xs. xs ++ c.args.value ∷ [])
    (ap (λ (v : Vec g.row.V.Denot Global). v.items) c.unwrap_or-group.ensures
    ∙ items_or c.remove.result c.new.result c.new.ensures.items
    ∙ ap (λ o. option_map_or (λ (v : Vec g.row.V.Denot Global). v.items) o []) c.remove.ensures.value))
