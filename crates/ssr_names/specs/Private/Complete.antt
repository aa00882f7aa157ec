-- Private: each node that stands for a thing is among its usages.
use Rattle.std.proofs.Common.{◌≡◌, List, [], ◌∷◌, Option, Some, None, true, false, Bool, cond, true≢false, refl, sym, ap, subst, ◌∙◌, Contains, filter, IsSome, option_and_then}
use Rattle.std.proofs.lemmas.Option.{same_Some}
use Rattle.std.proofs.lemmas.Map.Views.{Contains-keys_from_lookup}
use Rattle.std.specs.BTreeMap.{BTreeMap, get, is_at}
use Rattle.std.specs.Map.{lookup}
use Rattle.ssr_base_trees.specs.declared.ids.NodeId.{NodeId}
use Rattle.ssr_base_trees.specs.declared.ids.DefId.{DefId}
use Rattle.ssr_base_trees.specs.declared.semantics.Res.{Res}
use Rattle.ssr_base_trees.specs.declared.semantics.Res.TheVariants as res
use Rattle.ssr_base_trees.specs.contracts.ids.NodeIdOrd.TheImpl as id_order
use Rattle.ssr_base_trees.specs.Meanings.{IsComplete, same_res}
use Rattle.ssr_base_trees.proofs.Shared.{same_nodes, id_ties, same_res-itself}
use Rattle.ssr_names.specs.declared.provider.Names.{Names}
use Rattle.ssr_names.specs.Provider.{told, believed, nodes_for, def_of}

-- nodes that the order doesn't tell apart are the same
exact : (a b : NodeId) → is_at ((id_order.ghosts).cmp a) b ≡ true → a ≡ b
exact a b is = same_nodes a b (id_ties a b ∙ is)

same_itself : (a b : Res) → a ≡ b → same_res a b ≡ true
same_itself a b is = subst (λ (x : Res). same_res a x ≡ true) is (same_res-itself a)

-- a row that a look-up finds is found too where the rows are left out that stand for something else
at_head : (t k : Bool) (r : Res) (row : NodeId × Res) (found : Option Res) (rest : List (NodeId × Res)) (test : NodeId → Bool)
    → test row.0 ≡ t → (row.1 ≡ r → k ≡ true) → (found ≡ Some r → IsSome (lookup test rest))
    → cond t (Some row.1) found ≡ Some r → IsSome (lookup test (cond k (row ∷ rest) rest))
at_head true true r row found rest test is keeps later means = subst (λ (b : Bool). IsSome (cond b (Some row.1) (lookup test rest))) (sym is) refl
at_head true false r row found rest test is keeps later means = absurd (true≢false (sym (keeps (same_Some row.1 r means))))
at_head false true r row found rest test is keeps later means = subst (λ (b : Bool). IsSome (cond b (Some row.1) (lookup test rest))) (sym is) (later means)
at_head false false r row found rest test is keeps later means = later means

kept : (test : NodeId → Bool) (r : Res) (rows : List (NodeId × Res)) → lookup test rows ≡ Some r → IsSome (lookup test (filter (λ row. same_res row.1 r) rows))
kept test r [] is = cc
kept test r (row ∷ rows) is =
    at_head (test row.0) (same_res row.1 r) r row (lookup test rows) (filter (λ row. same_res row.1 r) rows) test refl (same_itself row.1 r) (kept test r rows) is

among : (r : Res) (node : NodeId) (rows : BTreeMap NodeId Res) → get ((id_order.ghosts).cmp) rows node ≡ Some r → Contains (nodes_for r rows.entries) node
among r node rows means = Contains-keys_from_lookup exact node (filter (λ row. same_res row.1 r) rows.entries) (kept _ r rows.entries means)

pub is_complete : (names : Names) → IsComplete (told names)
is_complete names = record {
  paths = λ r node _ _ means. among r node names.known means;
  methods = λ d node _ _ means. cc;
}

called : (d : DefId) (o : Option Res) → option_and_then def_of o ≡ Some d → o ≡ Some (res.Def d)
called d None is = cc
called d (Some (res.Def e)) is = ap (λ (x : DefId). Some (res.Def x)) (same_Some e d is)
called d (Some r) is = cc

pub is_believed_complete : (names : Names) → IsComplete (believed names)
is_believed_complete names = record {
  paths = λ r node _ _ means. among r node names.believed means;
  methods = λ d node _ _ means. among (res.Def d) node names.believed (called d _ means);
}
