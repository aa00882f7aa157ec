use Rattle.std.proofs.Common.{refl, sym}
use Rattle.ssr_names_items.specs.declared.table.ItemNo.{ItemNo}
use Rattle.ssr_names.proofs.preparing.macro_at.Goals as goal

pub returns : goal.returns
returns c =
    let item : ItemNo = record { 0 = c.args.number } in
    record {
      item = item;
      first = c.in_ok-first.first;
      row = c.in_ok-item.item;
      is = sym c.in_ok-item.ensures;
      kind = c.is_macro.ensures c.if-not-is_macro.false;
      named = refl;
      same = c.requires item c.in_ok-first.first (sym c.in_ok-first.ensures);
      stands = refl;
    }
