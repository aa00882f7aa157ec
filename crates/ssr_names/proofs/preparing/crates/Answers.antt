use Rattle.std.proofs.Common.{sym, subst}
use Rattle.std.specs.Prelude.{All}
use Rattle.std.proofs.lemmas.List.Filters.{All-dedup, dedup_is}
use Rattle.std.proofs.lemmas.List.Sorted.{All-permutation}
use Rattle.ssr_names.specs.Declarations.{IsCrate}
use Rattle.ssr_names.proofs.preparing.crates.Goals as goal

pub returns : goal.returns
returns c =
    let crate = IsCrate c.args.table.now in
    subst (All crate) (sym (dedup_is _ _ _ c.dedup.ensures.filtered))
    (All-dedup _ crate _ (All-permutation crate _ _ c.in_ok-sort.ensures.permutation c.loop-name.invariant))
