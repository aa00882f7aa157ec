use Rattle.std.proofs.Common.{◌∙◌, ap, sym}
use Rattle.ssr_syntax.specs.Expansions.{expansion_reading}
use Rattle.ssr_base.specs.declared.building.Expansion.{Expansion}
use Rattle.ssr_base.proofs.Adding.{in_stated}
use Rattle.ssr_base.proofs.workspace.Workspace.add_read.Goals as goal

pub add_at-requires-clause-read : goal.add_at-requires-clause-read
add_at-requires-clause-read c =
    let x : Expansion = c.args.expansion.now in
    in_stated x.kind x.tokens.items c.in_ok-tree.tree (ap (expansion_reading x.kind) (sym c.deref.ensures.value) ∙ c.in_ok-tree.ensures.read)
