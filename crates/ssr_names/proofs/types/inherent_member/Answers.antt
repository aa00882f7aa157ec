use Rattle.std.proofs.Common.{refl, sym, subst}
use Rattle.ssr_names_items.specs.declared.table.Owner.{Owner}
use Rattle.ssr_names.specs.Declarations.{IsPart}
use Rattle.ssr_names.proofs.Copying.{first_same}
use Rattle.ssr_names.proofs.types.inherent_member.Goals as goal

pub returns : goal.returns
returns c =
    let space = c.args.space.now in
    let is = sym c.in_ok-item.ensures in
    record {
      part = c.args.number;
      row = c.in_ok-item.item;
      is = is;
      named = refl;
      same = first_same space c.requires c.args.number c.in_ok-item.item is c.first_item.result c.first_item.ensures;
      of = subst (λ (o : Owner). IsPart space.table.now o c.in_ok-of.of) (sym c.in-Impl.is) c.in_ok-of.ensures;
    }
