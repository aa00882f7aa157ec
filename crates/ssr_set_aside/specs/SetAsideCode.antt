-- For the logic alone: how it stores a text of which parts are set aside. There is nothing to believe here.
use Rattle.std.specs.Prelude.{ℕ, List, refl}
use Rattle.std.specs.Coded.{Coded, code_by, coded×, coded_list, coded_ℕ}
use Rattle.ssr_syntax_tree.specs.Syntax.{Syntax}
use Rattle.ssr_syntax_tree.specs.SyntaxCode.{syntax_code}
use Rattle.ssr_base_trees.specs.Changes.{Change}
use Rattle.ssr_base_trees.specs.Origins.{Span}
use Rattle.ssr_base_trees.specs.WorkspaceCode.{span_code}
use Rattle.ssr_set_aside.specs.SetAside.{SetAside}

abbrev pub change_code : Coded Change
change_code =
    code_by (ℕ × (ℕ × List ℕ)) (coded× coded_ℕ (coded× coded_ℕ (coded_list coded_ℕ))) (λ c. (c.start, (c.end, c.text)))
    (λ c. record { start = c.0; end = c.1.0; text = c.1.1 }) (λ _. refl)

abbrev pub set_aside_code : Coded SetAside
set_aside_code =
    code_by (Syntax × (List Change × (List Span × List Span)))
    (coded× syntax_code (coded× (coded_list change_code) (coded× (coded_list span_code) (coded_list span_code))))
    (λ m. (m.tree, (m.aside, (m.reaches, m.unsearched)))) (λ c. record { tree = c.0; aside = c.1.0; reaches = c.1.1.0; unsearched = c.1.1.1 }) (λ _. refl)
