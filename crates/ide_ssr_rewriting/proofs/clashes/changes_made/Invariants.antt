use Rattle.std.proofs.Common.{◌≡◌, ◌++◌, map}
use Rattle.ssr_base_trees.specs.Applied.{changes_of}
use Rattle.ide_ssr_rewriting.specs.Clashes.{change_of, changes_made}
use Rattle.ide_ssr_rewriting.proofs.ChangesMade.{fresh}
use Rattle.ide_ssr_rewriting.proofs.clashes.changes_made.Given as goal

abbrev pub invariant-loop-rewrite : goal.invariant-loop-rewrite
invariant-loop-rewrite l = changes_of l.changes.items ++ map change_of (fresh l.last l.rewrite-iterator.rest.items) ≡ changes_made l.fn.list.items
