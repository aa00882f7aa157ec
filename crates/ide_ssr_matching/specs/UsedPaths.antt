-- Used paths of a pattern, and paths of the code.
use Rattle.std.specs.Prelude.{ℕ, Bool, false, if◌then◌else◌, List, [], ◌∷◌, Option}
use Rattle.std.specs.Option.{option_map_or}
use Rattle.ssr_syntax_kinds.specs.declared.kinds.SyntaxKind.TheVariants as k
use Rattle.ssr_syntax_tree.specs.Places.{Node, Part, token_part, node_part, parts_of}
use Rattle.ssr_base_trees.specs.declared.semantics.Res.{Res}
use Rattle.ssr_base_trees.specs.Meanings.{Meanings}
use Rattle.ssr_base_trees.specs.Workspace.{node_id}
use Rattle.ide_ssr_resolved_rule.specs.Paths.{first_of_kind, is_arguments}
use Rattle.ide_ssr_resolved_rule.specs.Resolved.{ResolvedRule}
use Rattle.ide_ssr_resolved_rule.specs.UsedPaths.{res_at}

-- whether a child of a segment is generic arguments, arguments in parentheses or a return type
abbrev pub holds_arguments : Part → Bool
holds_arguments (token_part t token) = false
holds_arguments (node_part node) = is_arguments node.kind

-- the children of a segment from its arguments on: generic arguments, or those in parentheses and the return type behind
abbrev pub from_arguments : List Part → List Part
from_arguments [] = []
from_arguments (part ∷ rest) = if holds_arguments part then part ∷ rest else from_arguments rest

-- the arguments of the last segment of a path; a path in front of it is a child of its own
abbrev pub arguments_of : Node → List Part
arguments_of path = option_map_or (λ segment. from_arguments (parts_of segment)) (first_of_kind k.PATH_SEGMENT (parts_of path)) []

-- what a node of the pattern stands for, if it is a path that is used
abbrev pub pattern_res : ResolvedRule → Node → Option Res
pattern_res rule p = res_at rule.pattern_paths (record { 0 = p.number })

-- what a node stands for in the code, which is the tree with this number
abbrev pub code_res : Meanings → ℕ → Node → Option Res
code_res m tree c = m.path (node_id tree c.number)
