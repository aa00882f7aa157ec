-- For the logic alone: how it stores what was read of a short text. There is nothing to believe here.
use Rattle.std.specs.Prelude.{ℕ, List, refl}
use Rattle.std.specs.Coded.{Coded, code_by, coded×, coded_list, coded_ℕ}
use Rattle.ssr_syntax_tree.specs.Syntax.{Syntax}
use Rattle.ssr_syntax_tree.specs.SyntaxCode.{syntax_code}
use Rattle.ssr_syntax_shorts.specs.Shorts.{ShortRead}
use Rattle.ssr_syntax_shorts.specs.contracts.stand_ins.Name as name
use Rattle.ssr_syntax_shorts.specs.declared.stand_ins.Name.{Name}

abbrev pub read_code : Coded ShortRead
read_code =
    code_by (Syntax × (List Name × (ℕ × ℕ))) (coded× syntax_code (coded× (coded_list name.the_row.coded) (coded× coded_ℕ coded_ℕ)))
    (λ r. (r.tree, (r.names, (r.depth, r.bytes)))) (λ c. record { tree = c.0; names = c.1.0; depth = c.1.1.0; bytes = c.1.1.1 }) (λ _. refl)
