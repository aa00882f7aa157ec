use Rattle.std.proofs.Common.{◌≡◌, map, take}
use Rattle.ssr_syntax_tree.specs.Syntax.{tokens_of}
use Rattle.ide_ssr_resolved_rule.specs.StandIns.{name_at}
use Rattle.ide_ssr_resolved_rule.proofs.placeholders.token_placeholders.Given as goal

abbrev pub invariant-loop-token : goal.invariant-loop-token
invariant-loop-token l = l.table.items ≡ map (name_at l.names) (take l.token (tokens_of l.tree))
