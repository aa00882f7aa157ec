use Rattle.std.proofs.Common.{◌≡◌, false, true, inl, inr, refl, sym, ◌∙◌}
use Rattle.std.proofs.lemmas.Bool.{both_ways, cases_Bool}
use Rattle.ssr_base_trees.specs.Workspace.{trees}
use Rattle.ide_ssr_search.specs.Permitted.{arguments_range}
use Rattle.ide_ssr_search.proofs.Arguments.{shuts_use, shuts_call, shuts_not, none_told}
use Rattle.ide_ssr_search.proofs.permitted.shuts.Goals as goal

pub returns-then-is : goal.returns-then-is
returns-then-is c = (
  λ _. shuts_use c.args.workspace.now c.args.node.tree c.args.node.node.0 c.args.tree.now c.requires.tree
      (sym c.kind-kind.ensures ∙ c.is.ensures.decides.0 c.if-is.true),
  λ _. refl,
)

pub returns-then-not-is : goal.returns-then-not-is
returns-then-not-is c = (
  λ h. let e : false ≡ true = h in cc,
  λ shuts. absurd (shuts_not c.args.workspace.now c.args.node.tree c.args.node.node.0 c.args.tree.now c.requires.tree
      (λ kind. both_ways c.is.result c.if-is.false (c.is.ensures.decides.1 (c.kind-kind.ensures ∙ kind)))
      (λ kind none. both_ways c.is-2.result c.if-not-is.true (c.is-2.ensures.decides.1 (c.kind-kind.ensures ∙ kind)))
      shuts),
)

pub returns : goal.returns
returns c =
    let w = c.args.workspace.now in
    let told = none_told c.arguments_range.result (arguments_range (trees w) c.args.node) c.is_none.result c.arguments_range.ensures c.is_none.ensures in (
      λ none. shuts_call w c.args.node.tree c.args.node.node.0 c.args.tree.now c.requires.tree
          (sym c.kind-kind.ensures ∙ c.is-2.ensures.decides.0 c.if-not-is.false) (told.0 none),
      λ shuts. elim (cases_Bool c.is_none.result) [
        | inl none ↦ none
        | inr some ↦
            absurd (shuts_not w c.args.node.tree c.args.node.node.0 c.args.tree.now c.requires.tree
            (λ kind. both_ways c.is.result c.if-is.false (c.is.ensures.decides.1 (c.kind-kind.ensures ∙ kind)))
            (λ kind none. both_ways c.is_none.result some (told.1 none))
            shuts)
      ],
    )
