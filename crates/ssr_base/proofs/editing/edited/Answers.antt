use Rattle.std.proofs.Common.{ℕ, List, All, length, sym, ap, subst, ◌∙◌}
use Rattle.ssr_base_trees.specs.Changes.{FitsText, replaced}
use Rattle.ssr_base.proofs.editing.edited.Goals as goal

pub returns-in-Ok : goal.returns-in-Ok
returns-in-Ok c =
    c.in-Ok.ensures.text ∙ ap (λ (text : List ℕ). replaced text 0 (length text) c.args.edit.now) c.source.ensures

pub unreachable-requires : goal.unreachable-requires
unreachable-requires c =
    (rw c.in-Err-Range.field-0-is at c.in-Err-Range.ensures).answer
    (subst (λ (text : List ℕ). All (FitsText text) c.args.edit.now) (sym c.source.ensures) c.requires)
