-- Private: where no usage is left out, none is by the careless provider.
use Rattle.std.specs.Prelude.{List}
use Rattle.std.proofs.lemmas.List.Elements.{Contains-append_right}
use Rattle.ssr_base_trees.specs.declared.ids.NodeId.{NodeId}
use Rattle.ssr_base_trees.specs.Meanings.{Meanings, IsComplete}
use Rattle.ssr_careless.specs.Careless.{careless}

pub is_complete : (m : Meanings) (strays : List NodeId) → IsComplete m → IsComplete (careless m strays)
is_complete m strays complete = record {
  paths = λ r node builtin named is. Contains-append_right _ _ node (complete.paths r node builtin named is);
  methods = λ d node builtin named is. Contains-append_right _ _ node (complete.methods d node builtin named is);
}
