use Rattle.std.proofs.Common.{inl, inr, sym, ◌∙◌}
use Rattle.std.proofs.lemmas.Bool.{cases_Bool, both_ways}
use Rattle.ssr_syntax_rows.specs.MacroRules.{misnames}
use Rattle.ssr_syntax_rows.proofs.MacroNames.{node_misnamed}
use Rattle.ssr_syntax_rows.proofs.macro_rules.misnames.Goals as goal

pub returns-else-has_kind : goal.returns-else-has_kind
returns-else-has_kind c =
    let kind = c.args.kind in
    let word = c.args.word.now in
    let tree = c.args.tree.now in
    elim (cases_Bool (misnames kind word tree)) [
      | inl misnamed ↦ absurd (both_ways c.has_kind.result c.if-has_kind.false (c.has_kind.ensures.1 (node_misnamed kind word tree misnamed)))
      | inr none ↦ c.if-has_kind.false ∙ sym none
    ]
