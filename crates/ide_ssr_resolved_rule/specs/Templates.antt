-- What each token of a template is. A used path that names a definition is written as a scope reaches this: what is printed so
-- takes the place of the path up to its name.
use Rattle.std.specs.Prelude.{ℕ, ◌+◌, ◌==◌, ◌&&◌, Bool, true, false, nat_le, nat_lt, if◌then◌else◌, List, [], ◌∷◌, Option, Some, None}
use Rattle.std.specs.Option.{option_and_then, option_map_or}
use Rattle.ssr_syntax_kinds.specs.declared.kinds.SyntaxKind.TheVariants as k
use Rattle.ssr_syntax_tree.specs.Places.{Node, node_of, parts_of, token_of}
use Rattle.ssr_syntax_tree.specs.Syntax.{Token, Syntax, token_count}
use Rattle.ssr_base_trees.specs.declared.semantics.Res.{Res}
use Rattle.ssr_base_trees.specs.declared.semantics.Res.TheVariants as res
use Rattle.ide_ssr_resolved_rule.specs.declared.templates.TemplateToken.{TemplateToken}
use Rattle.ide_ssr_resolved_rule.specs.declared.templates.TemplateToken.TheVariants as t
use Rattle.ide_ssr_resolved_rule.specs.declared.used_paths.UsedPath.{UsedPath}
use Rattle.ide_ssr_resolved_rule.specs.Paths.{first_of_kind}
use Rattle.ide_ssr_resolved_rule.specs.Resolved.{ResolvedRule}
use Rattle.ide_ssr_resolved_rule.specs.StandIns.{name_at}

-- the name of a path's last segment
abbrev pub name_of : Node → Option Node
name_of path = option_and_then (λ segment. first_of_kind k.NAME_REF (parts_of segment)) (first_of_kind k.PATH_SEGMENT (parts_of path))

-- the number of the token past those of a node
abbrev pub past : Node → ℕ
past node = node.first + token_count node.children

-- the number of the token past those of a path up to its name, or past all of them, where its last segment has no name
abbrev pub past_name : Node → ℕ
past_name path = option_map_or past (name_of path) (past path)

abbrev pub is_definition : Res → Bool
is_definition (res.Def def) = true
is_definition _ = false

-- whether a number is one from a first one up to before another
abbrev pub is_among : ℕ → ℕ → ℕ → Bool
is_among first past n = nat_le first n && nat_lt n past

-- whether a token is one of a path up to its name, and the path names a definition
abbrev pub is_printed : Syntax → ℕ → UsedPath → Bool
is_printed template n path =
    is_definition path.res && is_among (node_of template path.node.0).first (past_name (node_of template path.node.0)) n

-- of the tokens that are printed for the path with the place i, the first one stands for all
abbrev pub printed_token : ℕ → ℕ → ℕ → TemplateToken
printed_token first i n = if n == first then t.Path i else t.InPath

-- what a token is that is not printed: the stand-in of a placeholder, or one that is written as it is spelled
abbrev pub unprinted : List (List ℕ) → Token → TemplateToken
unprinted names token = elim (name_at names token) [ Some i ↦ t.Placeholder i | None ↦ t.Spelled ]

-- what a token is by used paths, of which the first one has the place i; where it is printed for none of them, it is `other`
abbrev pub token_by : Syntax → ℕ → TemplateToken → ℕ → List UsedPath → TemplateToken
token_by template n other i [] = other
token_by template n other i (path ∷ paths) =
    if is_printed template n path then printed_token (node_of template path.node.0).first i n else token_by template n other (i + 1) paths

-- what the token with this number is in the template of a rule with these names and used paths
abbrev pub token_in : List (List ℕ) → List UsedPath → Syntax → ℕ → TemplateToken
token_in names paths template n = token_by template n (unprinted names (token_of template n)) 0 paths

-- what the token with this number is in the template of a rule
unfoldable pub template_token : ResolvedRule → Syntax → ℕ → TemplateToken
template_token rule template n = token_in rule.names rule.template_paths template n
