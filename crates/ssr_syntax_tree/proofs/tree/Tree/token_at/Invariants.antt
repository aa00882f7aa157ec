use Rattle.std.proofs.Common.{◌-◌, ◌<◌, ◌≤◌}
use Rattle.ssr_syntax_tree.specs.Places.{offset_of}
use Rattle.ssr_syntax_tree.specs.Syntax.{token_count}
use Rattle.ssr_syntax_tree.proofs.tree.Tree.token_at.Given as goal

abbrev pub invariant-loop-past : goal.invariant-loop-past
invariant-loop-past l = record {
  ordered : l.first < l.past;
  within : l.past ≤ token_count l.self.children;
  begun : offset_of l.self l.first ≤ l.offset;
  ahead : l.offset < offset_of l.self l.past;
}

abbrev pub decreases-loop-past : goal.decreases-loop-past
decreases-loop-past l = l.past - l.first
