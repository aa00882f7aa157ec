use Rattle.ssr_syntax_tree.specs.Places.{node_of, size_of}
use Rattle.ssr_syntax_shorts.proofs.paths.+is_path.Given as goal

abbrev pub decreases-is_path : goal.decreases-is_path
decreases-is_path l = size_of (node_of l.walk.now.tree.now l.node.0)
