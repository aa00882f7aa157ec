use Rattle.std.proofs.Common.{◌≡◌, drop}
use Rattle.std.specs.List.{list_any}
use Rattle.ssr_syntax_kinds.specs.Kinds.{same_kind}
use Rattle.ssr_syntax_kinds.specs.declared.kinds.SyntaxKind.TheVariants.{PATH}
use Rattle.ssr_syntax_tree.specs.Places.{nodes_of}
use Rattle.ide_ssr_rules.proofs.kinds.has_path.Given as goal

abbrev pub invariant-loop-number : goal.invariant-loop-number
invariant-loop-number l = list_any (λ node. same_kind node.kind PATH) (drop l.number (nodes_of l.tree)) ≡ list_any (λ node. same_kind node.kind PATH) (nodes_of l.tree)
