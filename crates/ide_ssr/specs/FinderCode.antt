-- For the logic alone: how it stores a finder. There is nothing to believe here.
use Rattle.std.specs.Prelude.{ℕ, List, Option, refl}
use Rattle.std.specs.Coded.{Coded, code_by, coded×, coded_list, coded_option, coded_ℕ}
use Rattle.ssr_base_trees.specs.declared.ids.NodeId.{NodeId}
use Rattle.ssr_base_trees.specs.Origins.{Span}
use Rattle.ssr_base_trees.specs.Workspace.{Workspace, FileSpan}
use Rattle.ssr_base_trees.specs.WorkspaceCode.{span_code, id_code, workspace_code}
use Rattle.ide_ssr_resolved_rule.specs.Resolved.{ResolvedRule}
use Rattle.ide_ssr_resolved_rule.specs.ResolvedCode.{resolved_code}
use Rattle.ide_ssr_search.specs.Context.{Context}
use Rattle.ide_ssr.specs.Finder.{FinderWith}

abbrev pub file_span_code : Coded FileSpan
file_span_code = code_by (ℕ × Span) (coded× coded_ℕ span_code) (λ r. (r.file, r.span)) (λ c. record { file = c.0; span = c.1 }) (λ _. refl)

abbrev pub context_code : Coded Context
context_code =
    code_by (ℕ × (List FileSpan × Option NodeId)) (coded× coded_ℕ (coded× (coded_list file_span_code) (coded_option id_code)))
    (λ x. (x.scope.0, (x.restrictions, x.function))) (λ c. record { scope = record { 0 = c.0 }; restrictions = c.1.0; function = c.1.1 }) (λ _. refl)

abbrev pub finder_code : {S : Type 0} → Coded S → Coded (FinderWith S)
finder_code {S} semantics =
    code_by (Workspace × (S × (Context × List ResolvedRule))) (coded× workspace_code (coded× semantics (coded× context_code (coded_list resolved_code))))
    (λ f. (f.workspace, (f.semantics, (f.context, f.rules))))
    (λ c. record { workspace = c.0; semantics = c.1.0; context = c.1.1.0; rules = c.1.1.1 }) (λ _. refl)
