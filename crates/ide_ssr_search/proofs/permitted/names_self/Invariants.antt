use Rattle.std.proofs.Common.{◌≡◌, drop}
use Rattle.ssr_syntax_tree.specs.Syntax.{tokens_of}
use Rattle.ide_ssr_search.specs.Permitted.{names_self}
use Rattle.ide_ssr_search.proofs.Selves.{answer}
use Rattle.ide_ssr_search.proofs.permitted.names_self.Given as goal

abbrev pub invariant-loop-number : goal.invariant-loop-number
invariant-loop-number l = answer l.begun (drop l.number (tokens_of l.tree)) ≡ names_self (tokens_of l.tree)
