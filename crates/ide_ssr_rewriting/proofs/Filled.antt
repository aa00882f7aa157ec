-- The template of a match's rule, filled.
use Rattle.std.proofs.Common.{◌≡◌, ℕ, List, [], Option, Some, sym, ap, ◌∙◌}
use Rattle.std.specs.Prelude.{slice_get}
use Rattle.std.specs.Option.{option_map_or}
use Rattle.ssr_base_trees.specs.declared.ids.NodeId.{NodeId}
use Rattle.ide_ssr_resolved_rule.specs.Resolved.{ResolvedRule}
use Rattle.ide_ssr_bindings.specs.declared.bindings.Binding.{Binding}
use Rattle.ide_ssr_bindings.specs.Found.{FoundMatch}
use Rattle.ide_ssr_rewriting.specs.Printing.{printed_paths}
use Rattle.ide_ssr_rewriting.specs.Rendering.{filling_of, rendered}
use Rattle.ide_ssr_rewriting.specs.Replacements.{Writing, template_text}

pub filled : (by : Writing) (m : FoundMatch) (pieces printed : List (List ℕ)) (r : ℕ) (rule : ResolvedRule) (bindings : List Binding) (node : NodeId)
    → r ≡ m.rule → bindings ≡ m.bindings → node ≡ m.node → slice_get by.rules r ≡ Some rule → printed ≡ printed_paths by.meanings rule node
    → rendered rule (filling_of bindings pieces printed) ≡ template_text by m pieces
filled by m pieces printed r rule bindings node same_rule same_bindings same_node found are =
    ap (λ (bindings : List Binding). rendered rule (filling_of bindings pieces printed)) same_bindings
    ∙ ap (λ (printed : List (List ℕ)). rendered rule (filling_of m.bindings pieces printed)) (are ∙ ap (printed_paths by.meanings rule) same_node)
    ∙ sym (ap (λ (o : Option ResolvedRule). option_map_or (λ rule. rendered rule (filling_of m.bindings pieces (printed_paths by.meanings rule m.node))) o [])
    (sym (ap (slice_get by.rules) same_rule) ∙ found))
