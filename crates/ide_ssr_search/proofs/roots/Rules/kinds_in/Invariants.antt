use Rattle.std.proofs.Common.{◌≡◌, ℕ, ◌<◌, true, Some}
use Rattle.std.specs.Prelude.{slice_get}
use Rattle.ssr_syntax_kinds.specs.declared.kinds.SyntaxKind.TheVariants as k
use Rattle.ssr_syntax_tree.specs.Places.{node_of, HasNode}
use Rattle.ide_ssr_search.specs.declared.roots.Asked.{Asked}
use Rattle.ide_ssr_search.specs.Found.{IsWanted}
use Rattle.ide_ssr_search.specs.Private.Roots.{has_asked, has_kind}
use Rattle.ide_ssr_search.proofs.roots.Rules.kinds_in.Given as goal

abbrev pub invariant-loop-place : goal.invariant-loop-place
invariant-loop-place l = record {
  met : (place : ℕ) (asked : Asked) → place < l.place → slice_get l.self.asked.items place ≡ Some asked → IsWanted l.self.wanted.now place → (n : ℕ) → HasNode l.tree n
      → has_asked asked.root (node_of l.tree n) ≡ true → has_kind l.kinds (node_of l.tree n).kind ≡ true;
  uses : has_kind l.kinds k.USE ≡ true;
  calls : has_kind l.kinds k.MACRO_CALL ≡ true;
}
