use Rattle.std.proofs.Common.{sym, ◌∙◌, rules}
use Rattle.ssr_facts.proofs.Rows.{keeps_first, adds_first}
use Rattle.ssr_facts.proofs.grouping.add_first.Goals as goal

pub returns-in_ok-insert : goal.returns-in_ok-insert
returns-in_ok-insert g c = adds_first g.met.K.Ord.total c.args.map.now c.insert.new.self c.args.key c.args.value (sym c.contains_key.ensures ∙ search rules steps 150000) c.in_ok-insert.ensures.updates.0

pub returns-else-not-contains_key : goal.returns-else-not-contains_key
returns-else-not-contains_key g c = keeps_first g.met.K.Ord.total c.args.map.now c.args.key c.args.value (cc)
