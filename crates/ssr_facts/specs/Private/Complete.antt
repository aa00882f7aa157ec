-- Private: an index that has each node that stands for something makes usages complete.
use Rattle.std.proofs.Common.{◌≡◌, Option, Some, None, true, subst, eqb-true, ◌==◌, refl}
use Rattle.std.proofs.lemmas.Bool.{and_parts}
use Rattle.std.proofs.lemmas.Option.{same_Some}
use Rattle.std.proofs.lemmas.Map.Views.{Contains-from_any}
use Rattle.std.specs.Prelude.{Contains}
use Rattle.std.specs.Option.{option_map}
use Rattle.ssr_base_trees.specs.declared.ids.NodeId.{NodeId}
use Rattle.ssr_base_trees.specs.declared.ids.DefId.{DefId}
use Rattle.ssr_base_trees.specs.declared.semantics.Res.TheVariants as res
use Rattle.ssr_facts_rows.specs.declared.meanings.Method.{Method}
use Rattle.ssr_facts.specs.declared.maps.Maps.{Maps}
use Rattle.ssr_base_trees.specs.Meanings.{IsComplete}
use Rattle.ssr_base_trees.specs.Workspace.{same_id}
use Rattle.ssr_facts.specs.Usages.{uses_of}
use Rattle.ssr_facts.specs.Maps.{method_in, meanings_in}
use Rattle.ssr_facts.specs.Private.Maps.{IsIndexed}

pub same_nodes : (a b : NodeId) → same_id a b ≡ true → a ≡ b
same_nodes a b is =
    let parts = and_parts (a.tree == b.tree) (a.node.0 == b.node.0) is in
    λ i. record { tree = eqb-true a.tree b.tree parts.0 i; node = record { 0 = eqb-true a.node.0 b.node.0 parts.1 i } }

pub is_complete : (m : Maps) → IsIndexed m → IsComplete (meanings_in m)
is_complete m index = record {
  paths = λ r node _ _ means. Contains-from_any same_nodes node (uses_of m.usages r) (index.paths r node means);
  methods = λ d node _ _ means. called d node (method_in m node) refl means;
}
  where
    called : (d : DefId) (node : NodeId) (o : Option Method) → method_in m node ≡ o → option_map (λ method. method.def) o ≡ Some d → Contains (uses_of m.usages (res.Def d)) node
    called d node None is means = cc
    called d node (Some method) is means =
        let contains : Contains (uses_of m.usages (res.Def method.def)) node =
        Contains-from_any same_nodes node (uses_of m.usages (res.Def method.def)) (index.methods node method is) in
        subst (λ (def : DefId). Contains (uses_of m.usages (res.Def def)) node) (same_Some method.def d means) contains
