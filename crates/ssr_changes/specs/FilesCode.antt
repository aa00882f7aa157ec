-- For the logic alone: how it stores files as they are searched. There is nothing to believe here.
use Rattle.std.specs.Prelude.{ℕ, List, refl}
use Rattle.std.specs.Coded.{Coded, code_by, coded×, coded_list, coded_ℕ}
use Rattle.ssr_base_trees.specs.Changes.{Change}
use Rattle.ssr_base_trees.specs.Origins.{Span}
use Rattle.ssr_base_trees.specs.Workspace.{Workspace}
use Rattle.ssr_base_trees.specs.WorkspaceCode.{span_code, workspace_code}
use Rattle.ssr_changes.specs.Files.{File, Searchable}

abbrev pub change_code : Coded Change
change_code =
    code_by (ℕ × (ℕ × List ℕ)) (coded× coded_ℕ (coded× coded_ℕ (coded_list coded_ℕ))) (λ c. (c.start, (c.end, c.text)))
    (λ c. record { start = c.0; end = c.1.0; text = c.1.1 }) (λ _. refl)

abbrev pub file_code : Coded File
file_code =
    code_by (List ℕ × (List ℕ × (List Change × (List Span × List Span))))
    (coded× (coded_list coded_ℕ) (coded× (coded_list coded_ℕ) (coded× (coded_list change_code) (coded× (coded_list span_code) (coded_list span_code)))))
    (λ f. (f.name, (f.text, (f.aside, (f.reaches, f.unsearched)))))
    (λ c. record { name = c.0; text = c.1.0; aside = c.1.1.0; reaches = c.1.1.1.0; unsearched = c.1.1.1.1 }) (λ _. refl)

abbrev pub searchable_code : Coded Searchable
searchable_code =
    code_by (Workspace × List File) (coded× workspace_code (coded_list file_code)) (λ s. (s.workspace, s.files))
    (λ c. record { workspace = c.0; files = c.1 }) (λ _. refl)
