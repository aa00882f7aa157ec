use Rattle.std.proofs.Common.{◌≡◌, ℕ, ◌<◌, true}
use Rattle.ssr_syntax_tree.specs.Places.{token_of}
use Rattle.ide_ssr_search.specs.Private.Roots.{has_kind}
use Rattle.ide_ssr_search.proofs.roots.KindSet.of_tokens.Given as goal

abbrev pub invariant-loop-token : goal.invariant-loop-token
invariant-loop-token l = (t : ℕ) → t < l.token → has_kind l.kinds (token_of l.tree t).kind ≡ true
