use Rattle.std.proofs.Common.{List, false, sym, ap, ◌∙◌, subst}
use Rattle.std.proofs.lemmas.List.Elements.{All-nil}
use Rattle.std.proofs.lemmas.Option.{none-some}
use Rattle.std.specs.BTreeMap.{is_at}
use Rattle.std.specs.Map.{lookup}
use Rattle.ssr_base_trees.specs.declared.ids.NodeId.{NodeId}
use Rattle.ssr_base_trees.specs.declared.semantics.Res.{Res}
use Rattle.ssr_base_trees.specs.contracts.ids.NodeIdOrd.TheImpl as id_order
use Rattle.ssr_base_trees.specs.Workspace.{node_id}
use Rattle.ssr_names_items.specs.declared.table.Namespace.TheVariants as namespace
use Rattle.ssr_names.specs.declared.definitions.Meaning.TheVariants as meaning
use Rattle.ssr_names.specs.declared.resolving.Row.{Row}
use Rattle.ssr_names.specs.Locals.{IsBoundName}
use Rattle.ssr_names.specs.Private.Locals.{HasNoLocal}
use Rattle.ssr_names.proofs.reading.path_rows.Goals as goal

pub loop-row-init : goal.loop-row-init
loop-row-init c =
    let empty = c.new.ensures.empty in
    record {
      local = λ trees all. subst (HasNoLocal trees) (sym empty) (All-nil (λ node. IsBoundName trees node → ⊥));
      told = λ stranger scopes trees all path r is.
          absurd (none-some r (sym (ap (λ (rows : List (NodeId × Res)). lookup (is_at ((id_order.ghosts).cmp path)) rows) empty) ∙ is));
    }

abbrev none : Row
none = record {
  node = node_id 0 0;
  namespace = namespace.Type;
  meaning = meaning.Nothing;
  is_front = false;
  word = record { 0 = 0 };
  name = record { 0 = 0 };
}

pub loop-row-preserved : goal.loop-row-preserved
loop-row-preserved c =
    let l = c.loop-row in
    let had = c.in_ok-add_row.ensures in
    record {
      local = λ trees all. had.local trees (all l.row-index none c.loop-row-test.true) (l.invariant.local trees all);
      told = λ stranger scopes trees all. had.told stranger scopes trees (all l.row-index none c.loop-row-test.true) (l.invariant.told stranger scopes trees all);
    }
