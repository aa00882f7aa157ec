-- What is due is what is read so far, and then the rows of the other values.
use Rattle.std.proofs.Common.{◌≡◌, map, drop}
use Rattle.serde_json.specs.View.{view}
use Rattle.ssr_facts_rows.specs.Fields.{rows}
use Rattle.ssr_facts_rows.proofs.Lists.{continued}
use Rattle.ssr_facts_rows.proofs.from_json.VecFromJson.from_json.Given as goal

abbrev pub invariant-loop-item : goal.invariant-loop-item
invariant-loop-item g l = rows g.R.FromJson.reading (view l.value) ≡ continued g.R.FromJson.reading (map g.R.FromJson.plain l.list.items) (map view (drop l.item-index l.item-items))
