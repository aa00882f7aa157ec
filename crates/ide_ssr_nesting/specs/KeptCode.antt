-- For the logic alone: how it stores kept matches. There is nothing to believe here.
use Rattle.std.specs.Prelude.{ℕ, List, Option, refl}
use Rattle.std.specs.Coded.{Coded, code_by, coded×, coded_list, coded_option, coded_ℕ}
use Rattle.ssr_base_trees.specs.declared.ids.NodeId.{NodeId}
use Rattle.ssr_base_trees.specs.Workspace.{Workspace}
use Rattle.ssr_base_trees.specs.WorkspaceCode.{id_code, workspace_code}
use Rattle.ide_ssr_bindings.specs.contracts.bindings.Binding as binding
use Rattle.ide_ssr_bindings.specs.declared.bindings.Binding.{Binding}
use Rattle.ide_ssr_bindings.specs.Found.{FoundMatch}
use Rattle.ide_ssr_nesting.specs.declared.holders.Holder.{Holder}
use Rattle.ide_ssr_nesting.specs.Holding.{Kept}
use Rattle.ide_ssr_nesting.specs.Lists.{Listing}

abbrev pub found_code : Coded FoundMatch
found_code =
    code_by (ℕ × (NodeId × List Binding)) (coded× coded_ℕ (coded× id_code (coded_list binding.the_row.coded)))
    (λ m. (m.rule, (m.node, m.bindings))) (λ c. record { rule = c.0; node = c.1.0; bindings = c.1.1 }) (λ _. refl)

abbrev pub holder_code : Coded Holder
holder_code =
    code_by (ℕ × ℕ) (coded× coded_ℕ coded_ℕ) (λ h. (h.place, h.binding)) (λ c. record { place = c.0; binding = c.1 }) (λ _. refl)

abbrev pub kept_code : Coded Kept
kept_code =
    code_by (Workspace × (List FoundMatch × List (Option Holder))) (coded× workspace_code (coded× (coded_list found_code) (coded_list (coded_option holder_code))))
    (λ k. (k.workspace, (k.matches, k.holders))) (λ c. record { workspace = c.0; matches = c.1.0; holders = c.1.1 }) (λ _. refl)

abbrev pub listing_code : Coded Listing
listing_code =
    code_by (List ℕ × List (Option Holder)) (coded× (coded_list coded_ℕ) (coded_list (coded_option holder_code)))
    (λ l. (l.places, l.holders)) (λ c. record { places = c.0; holders = c.1 }) (λ _. refl)
