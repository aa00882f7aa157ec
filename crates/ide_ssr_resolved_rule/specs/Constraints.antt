-- The constraints of a placeholder: what one asks, and which nodes meet all of them.
use Rattle.std.specs.Prelude.{Bool, not, List}
use Rattle.std.specs.List.{list_all}
use Rattle.ssr_syntax_kinds.specs.declared.kinds.SyntaxKind.{SyntaxKind}
use Rattle.ssr_syntax_kinds.specs.declared.kinds.SyntaxKind.TheVariants.{LITERAL}
use Rattle.ssr_syntax_kinds.specs.Kinds.{same_kind}
use Rattle.ide_ssr_resolved_rule.specs.declared.constraints.Constraint.{Constraint}
use Rattle.ide_ssr_resolved_rule.specs.declared.constraints.Constraint.TheVariants as c

-- what holds where a constraint doesn't
abbrev pub contrary : Constraint → Constraint
contrary c.Literal = c.NoLiteral
contrary c.NoLiteral = c.Literal

-- whether a constraint holds at a node of a kind
abbrev pub holds_at : SyntaxKind → Constraint → Bool
holds_at kind c.Literal = same_kind kind LITERAL
holds_at kind c.NoLiteral = not (same_kind kind LITERAL)

-- whether a node of a kind meets all of the constraints
abbrev pub are_met : List Constraint → SyntaxKind → Bool
are_met constraints kind = list_all (holds_at kind) constraints
