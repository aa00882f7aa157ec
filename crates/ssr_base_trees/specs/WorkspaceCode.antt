-- For the logic alone: how it stores a workspace. There is nothing to believe here.
use Rattle.std.specs.Prelude.{ℕ, List, Option, refl}
use Rattle.std.specs.Coded.{Coded, code_by, coded×, coded_list, coded_option, coded_ℕ}
use Rattle.ssr_syntax_kinds.specs.contracts.reach.Reach as reaches
use Rattle.ssr_syntax_kinds.specs.declared.reach.Reach.{Reach}
use Rattle.ssr_syntax_tree.specs.Syntax.{Syntax}
use Rattle.ssr_syntax_tree.specs.SyntaxCode.{syntax_code}
use Rattle.ssr_base_trees.specs.declared.ids.NodeId.{NodeId}
use Rattle.ssr_base_trees.specs.Origins.{Span}
use Rattle.ssr_base_trees.specs.Workspace.{Expanded, Workspace, node_id}

abbrev pub span_code : Coded Span
span_code = code_by (ℕ × ℕ) (coded× coded_ℕ coded_ℕ) (λ s. (s.start, s.end)) (λ c. record { start = c.0; end = c.1 }) (λ _. refl)

abbrev pub id_code : Coded NodeId
id_code = code_by (ℕ × ℕ) (coded× coded_ℕ coded_ℕ) (λ x. (x.tree, x.node.0)) (λ c. node_id c.0 c.1) (λ _. refl)

abbrev pub expanded_code : Coded Expanded
expanded_code =
    code_by (NodeId × (Syntax × List (Option Span)))
    (coded× id_code (coded× syntax_code (coded_list (coded_option span_code))))
    (λ e. (e.call, (e.syntax, e.origins))) (λ c. record { call = c.0; syntax = c.1.0; origins = c.1.1 }) (λ _. refl)

abbrev pub workspace_code : Coded Workspace
workspace_code =
    code_by (Reach × (List Syntax × List Expanded)) (coded× reaches.the_row.coded (coded× (coded_list syntax_code) (coded_list expanded_code)))
    (λ w. (w.reach, (w.files, w.expansions))) (λ c. record { reach = c.0; files = c.1.0; expansions = c.1.1 }) (λ _. refl)
