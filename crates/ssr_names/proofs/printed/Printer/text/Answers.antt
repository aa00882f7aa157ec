use Rattle.std.proofs.Common.{ℕ, ◌<◌, ◌∷◌, List, length, get_or, string_bytes, subst}
use Rattle.ssr_names_items.specs.declared.table.Name.{Name}
use Rattle.ssr_names.specs.Printed.{EndsWithName, EndsWithNames, ends_with_one}
use Rattle.ssr_names.proofs.Climbing.{get_again, take_whole}
use Rattle.ssr_names.proofs.Printing.{one_name_more}
use Rattle.ssr_names.proofs.printed.Printer.text.Goals as goal

abbrev none : Name
none = record { 0 = 0 }

pub loop-name-init : goal.loop-name-init
loop-name-init c =
    let numbers = c.args.self.now.space.now.table.now.names in
    ends_with_one c.args.first (string_bytes c.push_name.new.text)
    (subst (λ (front : List ℕ). EndsWithName numbers c.args.first front (string_bytes c.push_name.new.text)) c.in_ok-text.ensures.ok
    (c.in_ok-push_name.ensures c.if-not-branch.false))

pub loop-name-preserved : goal.loop-name-preserved
loop-name-preserved c =
    let l = c.loop-name in
    let others = c.args.others.now in
    let name = get_or others l.name-index none in
    let within : l.name-index < length others = c.loop-name-test.true in
    one_name_more c.args.self.now.space.now.table.now.names c.args.front.now c.args.first others l.name-index name (string_bytes l.text) _ _ within
    (get_again others l.name-index none name within) l.invariant c.in_ok-push_str.ensures.bytes (c.in_ok-push_name-2.ensures c.if-not-branch-2.false)

pub returns : goal.returns
returns c =
    let l = c.loop-name in
    let others = c.args.others.now in
    subst (λ (ns : List Name). EndsWithNames c.args.self.now.space.now.table.now.names c.args.front.now (c.args.first ∷ ns) (string_bytes l.text))
    (take_whole others l.name-index c.loop-name-test.false) l.invariant
