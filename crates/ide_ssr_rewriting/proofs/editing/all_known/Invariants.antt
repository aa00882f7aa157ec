use Rattle.std.proofs.Common.{◌≡◌, drop}
use Rattle.std.specs.Prelude.{is_some}
use Rattle.std.specs.List.{list_all}
use Rattle.ide_ssr_rewriting.proofs.editing.all_known.Given as goal

abbrev pub invariant-loop-rewrite : goal.invariant-loop-rewrite
invariant-loop-rewrite l = list_all (λ r. is_some r.text) (drop l.rewrite-index l.list) ≡ list_all (λ r. is_some r.text) l.list
