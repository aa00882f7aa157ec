use Rattle.std.proofs.Common.{◌≡◌, map, take}
use Rattle.ssr_syntax_tree.specs.Syntax.{tokens_of}
use Rattle.ide_ssr_resolved_rule.specs.Templates.{unprinted}
use Rattle.ide_ssr_resolved_rule.proofs.templates.unprinted_tokens.Given as goal

abbrev pub invariant-loop-token : goal.invariant-loop-token
invariant-loop-token l = l.table.items ≡ map (unprinted l.names) (take l.token (tokens_of l.tree))
