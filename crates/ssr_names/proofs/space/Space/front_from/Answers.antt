use Rattle.std.proofs.Common.{◌<◌, length, get_or, List, subst, sym}
use Rattle.ssr_names_items.specs.declared.table.Name.{Name}
use Rattle.ssr_names.specs.Private.Answered.{IsFront, place_of}
use Rattle.ssr_names.proofs.Climbing.{get_again}
use Rattle.ssr_names.proofs.Following.{name_more}
use Rattle.ssr_names.proofs.space.Space.front_from.Goals as goal

abbrev none : Name
none = record { 0 = 0 }

pub loop-name-preserved : goal.loop-name-preserved
loop-name-preserved c = λ begins.
    let l = c.loop-name in
    let names = c.in-Some.names.now in
    let name = get_or names l.name-index none in
    let within : l.name-index < length names = c.loop-name-test.true in
    subst (λ (ns : List Name). IsFront c.args.self.now (place_of c.args.path) ns c.in_ok-front.front) (sym (name_more names l.name-index name within (get_again names l.name-index none name within)))
    (c.in_ok-front.ensures _ (l.invariant begins))
