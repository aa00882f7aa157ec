use Rattle.std.proofs.Common.{◌≡◌, length}
use Rattle.std.specs.BTreeMap.{get, is_at}
use Rattle.std.specs.Map.{lookup}
use Rattle.std.specs.Option.{option_or}
use Rattle.ssr_facts.proofs.grouping.first_rows.Given as goal

abbrev pub invariant-loop-key : goal.invariant-loop-key
invariant-loop-key g l =
    (q : g.row.K.Denot) → option_or (lookup (is_at (g.K.Ord.cmp q)) l.rows.items) (get g.K.Ord.cmp l.map q) ≡ lookup (is_at (g.K.Ord.cmp q)) l.fn.rows.items

abbrev pub decreases-loop-key : goal.decreases-loop-key
decreases-loop-key g l = length l.rows.items
