use Rattle.ssr_syntax_tree.specs.Places.{node_of}
use Rattle.ssr_syntax_tree.specs.Syntax.{node_count}
use Rattle.ide_ssr_resolved_rule.proofs.placeholders.+only_token.Given as goal

abbrev pub decreases-only_token : goal.decreases-only_token
decreases-only_token l = node_count (node_of l.tree.now l.node.0).children
