use Rattle.std.proofs.Common.{◌≡◌, ◌<◌, List, [], length, get_or, sym, ◌∙◌, subst, arith}
use Rattle.std.proofs.lemmas.Bool.{eqb-true}
use Rattle.ssr_names_items.specs.declared.table.Name.{Name}
use Rattle.ssr_names.specs.declared.code_paths.Segment.{Segment}
use Rattle.ssr_names.specs.declared.code_paths.Segment.TheVariants as kinds
use Rattle.ssr_names.specs.CodePaths.{AreRead, read_none}
use Rattle.ssr_names.proofs.Climbing.{get_again}
use Rattle.ssr_names.proofs.Spelling.{none_long, read_on_name, read_on_word}
use Rattle.ssr_names.proofs.code_paths.read_segments.Goals as goal

abbrev none : Segment
none = kinds.Name (record { 0 = 0 })

pub loop-segment-init : goal.loop-segment-init
loop-segment-init c = subst (λ (ns : List Name). AreRead c.args.start [] c.args.start ns) (sym c.in_ok-with_capacity.ensures.items) read_none

pub loop-segment-preserved-in-Name : goal.loop-segment-preserved-in-Name
loop-segment-preserved-in-Name c =
    let l = c.loop-segment in
    let segments = c.args.segments.now in
    let s = get_or segments l.segment-index none in
    let within : l.segment-index < length segments = c.loop-segment-test.true in
    read_on_name c.args.start l.read.start segments l.segment-index s l.read.names.items within (get_again segments l.segment-index none s within) l.invariant
    c.in-Name.name c.push.new.self.items c.in-Name.is c.in_ok-push.ensures.items

pub loop-segment-preserved : goal.loop-segment-preserved
loop-segment-preserved c =
    let l = c.loop-segment in
    let segments = c.args.segments.now in
    let s = get_or segments l.segment-index none in
    let within : l.segment-index < length segments = c.loop-segment-test.true in
    let zero : l.read.names.len ≡ 0 = eqb-true l.read.names.len 0 (sym c.is_empty.ensures ∙ c.if-not-is_empty.false) in
    read_on_word c.args.start l.read.start segments l.segment-index s l.read.names.items within (get_again segments l.segment-index none s within) l.invariant
    c.in-Some.start (none_long l.read.names.items (omega (arith, zero, l.read.names.ok.0))) (sym c.in-Some.ensures)
