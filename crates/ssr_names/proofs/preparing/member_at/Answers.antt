use Rattle.std.proofs.Common.{refl, sym, subst}
use Rattle.ssr_names_items.specs.declared.table.ItemNo.{ItemNo}
use Rattle.ssr_names_items.specs.declared.table.Owner.{Owner}
use Rattle.ssr_names.specs.Declarations.{IsPart}
use Rattle.ssr_names.proofs.preparing.member_at.Goals as goal

pub returns : goal.returns
returns c =
    let item : ItemNo = record { 0 = c.args.number } in
    record {
      part = item;
      row = c.in_ok-item.item;
      is = sym c.in_ok-item.ensures;
      named = refl;
      same = c.requires item c.in_ok-first.first (sym c.in_ok-first.ensures);
      of = subst (λ (o : Owner). IsPart c.args.table.now o c.in_ok-of.of) (sym c.in-Item.is) (c.requires c.in-Item.owner c.in_ok-of.of (sym c.in_ok-of.ensures));
    }
