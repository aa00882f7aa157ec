use Rattle.std.proofs.Common.{◌≡◌, map, ap, sym, ◌∙◌, arith, refl}
use Rattle.std.proofs.lemmas.List.{take_all}
use Rattle.std.proofs.lemmas.List.Folds.{list_any_more}
use Rattle.std.specs.List.{list_any}
use Rattle.ssr_syntax_kinds.specs.declared.kinds.SyntaxKind.TheVariants as k
use Rattle.ssr_syntax_kinds.specs.Kinds.{same_kind}
use Rattle.ssr_syntax_tree.proofs.KindsOfNodes.{kind_found, kind_there}
use Rattle.ssr_syntax_tree.proofs.tree.Tree.has_kind.Goals as goal

pub loop-own-init : goal.loop-own-init
loop-own-init c = refl

pub loop-own-preserved : goal.loop-own-preserved
loop-own-preserved c =
    rw (
      list_any_more (λ own. same_kind own c.args.kind) c.kinds-kinds.result.now c.loop-own.own-index k.WHITESPACE c.loop-own-test.true,
      c.loop-own.invariant,
      c.is-found.ensures.same,
    )
    refl

pub returns : goal.returns
returns c =
    let told : list_any (λ own. same_kind own c.args.kind) (map (λ row. row.kind) c.self.inside.nodes) ≡ c.loop-own.found =
    ap (list_any (λ own. same_kind own c.args.kind)) (sym c.kinds-kinds.ensures ∙ sym (take_all c.loop-own.own-index c.kinds-kinds.result.now (omega arith)))
    ∙ c.loop-own.invariant in (
      λ is. kind_found c.self.inside c.args.self.now c.self.invariant c.self.view_is c.args.kind (told ∙ is),
      λ there. sym told ∙ kind_there c.self.inside c.args.self.now c.self.invariant c.self.view_is c.args.kind there.0 there.1.0 there.1.1,
    )
