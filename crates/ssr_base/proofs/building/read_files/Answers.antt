use Rattle.std.proofs.Common.{rules, All, sym, subst}
use Rattle.std.proofs.lemmas.List.Elements.{All-nil, All-push}
use Rattle.ssr_syntax.specs.Reading.{IsRead}
use Rattle.ssr_base.proofs.building.read_files.Goals as goal

pub loop-text-init : goal.loop-text-init
loop-text-init c = record {
  read = subst (All IsRead) (sym c.new-trees.ensures.items) (All-nil IsRead);
  counted = search rules;
  rest = search rules;
}

pub loop-text-preserved : goal.loop-text-preserved
loop-text-preserved c = record {
  read = subst (All IsRead) (sym c.in_ok-push.ensures.items) (All-push IsRead c.loop-text.trees.items c.in_ok-tree.tree c.loop-text.invariant.read c.in_ok-tree.ensures.read);
  counted = search rules;
  rest = search rules;
}
