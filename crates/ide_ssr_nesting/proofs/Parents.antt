-- Where the parent of a node stands in a tree: before it, and behind each other node that stands above it.
use Rattle.std.proofs.Common.{ℕ, ◌+◌, ◌<◌, ◌≤◌, arith}
use Rattle.ssr_syntax_tree.specs.Syntax.{Syntax}
use Rattle.ssr_syntax_tree.specs.Places.{HasNode, node_of, size_of}
use Rattle.ssr_syntax_tree.proofs.Shared.{inside, below_root}

-- the parent of a node stands before it and holds what it holds; any other node that stands above the node isn't behind the
-- parent
pub record HasParent (syntax : Syntax) (n : ℕ) : Type 0 where
  pub before : (node_of syntax n).parent < n
  pub holds : n + size_of (node_of syntax n) ≤ (node_of syntax n).parent + size_of (node_of syntax (node_of syntax n).parent)
  pub nearest : (a : ℕ) → a < n → n < a + size_of (node_of syntax a) → a ≤ (node_of syntax n).parent

pub has_parent : (syntax : Syntax) (n : ℕ) → HasNode syntax n → 0 < n → HasParent syntax n
has_parent syntax n has behind =
    let parent = (inside syntax 0 n (omega arith) (below_root syntax n has behind)).parent in
    record {
      before = parent.0;
      holds = (inside syntax (node_of syntax n).parent n (omega (arith, parent.0, has)) parent).ends;
      nearest = λ a less within. (inside syntax a n (omega (arith, less, has)) (less, within)).low;
    }
