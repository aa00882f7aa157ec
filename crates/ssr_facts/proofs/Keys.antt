-- Keys that an order doesn't tell apart are the same by their plain tests.
use Rattle.std.proofs.Common.{◌≡◌, ℕ, ◌==◌, ◌&&◌, true, List, [], ◌∷◌, map, string_bytes, refl, ◌∙◌, eqb-true}
use Rattle.std.proofs.lemmas.Bool.{and_parts}
use Rattle.std.proofs.lemmas.Slice.Eq.{bytes_eq-Decides, slice_eq-Decides}
use Rattle.std.specs.Prelude.{String}
use Rattle.std.specs.Global.{Global}
use Rattle.std.specs.BTreeMap.{BTreeMap, get, is_at}
use Rattle.std.specs.Cmp.{unsigned_ties, both_tied}
use Rattle.std.specs.Cmp.Lexicographic.{pointwise, slice_cmp, lists_ties}
use Rattle.std.specs.Map.{lookup, IsKeyTest}
use Rattle.std.specs.Ordering.{nat_cmp, eq_by_cmp}
use Rattle.std.specs.Str.{bytes_eq}
use Rattle.std.specs.String.{string_cmp}
use Rattle.ssr_base_trees.specs.declared.ids.NodeId.{NodeId}
use Rattle.ssr_base_trees.specs.declared.ids.ScopeId.{ScopeId}
use Rattle.ssr_base_trees.specs.declared.ids.DefId.{DefId}
use Rattle.ssr_base_trees.specs.declared.semantics.Res.{Res}
use Rattle.ssr_base_trees.specs.declared.semantics.Res.TheVariants as res
use Rattle.ssr_facts_rows.specs.declared.meanings.NameKey.{NameKey}
use Rattle.ssr_facts_rows.specs.declared.meanings.MemberKey.{MemberKey}
use Rattle.ssr_facts_rows.specs.declared.meanings.PrintedKey.{PrintedKey}
use Rattle.ssr_base_trees.specs.contracts.ids.NodeIdOrd.TheImpl as id_order
use Rattle.ssr_base_trees.specs.contracts.semantics.ResOrd.TheImpl as res_order
use Rattle.ssr_facts_rows.specs.contracts.meanings.NameKeyOrd.TheImpl as name_order
use Rattle.ssr_facts_rows.specs.contracts.meanings.MemberKeyOrd.TheImpl as member_order
use Rattle.ssr_facts_rows.specs.contracts.meanings.PrintedKeyOrd.TheImpl as printed_order
use Rattle.ssr_base_trees.specs.Workspace.{same_id}
use Rattle.ssr_base_trees.specs.Meanings.{same_res}
use Rattle.ssr_base_trees.proofs.Shared.{id_ties}
use Rattle.ssr_facts.specs.Tables.{is_name, is_member, is_printed}
use Rattle.ssr_facts.proofs.Rows.{lookup_alike}

-- ** Plain tests say what the orders say.

pub printed_ties : (a b : PrintedKey) → is_printed a.scope a.def b ≡ is_at ((printed_order.ghosts).cmp a) b
printed_ties a b = both_tied _ _ _ _ (unsigned_ties a.scope.0 b.scope.0) (unsigned_ties a.def.0 b.def.0)

pub res_ties : (a b : Res) → same_res a b ≡ is_at ((res_order.ghosts).cmp a) b
res_ties (res.Def a) (res.Def b) = unsigned_ties a.0 b.0
res_ties (res.Local a) (res.Local b) = unsigned_ties a b
res_ties (res.TypeParam a) (res.TypeParam b) = unsigned_ties a b
res_ties (res.ConstParam a) (res.ConstParam b) = unsigned_ties a b
res_ties (res.SelfType a) (res.SelfType b) = unsigned_ties a b
res_ties (res.Other a) (res.Other b) = unsigned_ties a b
res_ties a b = refl

text_ties : (a b : String Global) → bytes_eq (string_bytes a) (string_bytes b) ≡ eq_by_cmp string_cmp a b
text_ties a b = lists_ties nat_cmp unsigned_ties (string_bytes a) (string_bytes b)

texts_ties : (xs ys : List (String Global)) → pointwise bytes_eq (map string_bytes xs) (map string_bytes ys) ≡ eq_by_cmp (slice_cmp string_cmp) xs ys
texts_ties [] [] = refl
texts_ties [] (y ∷ ys) = refl
texts_ties (x ∷ xs) [] = refl
texts_ties (x ∷ xs) (y ∷ ys) = both_tied _ _ _ _ (text_ties x y) (texts_ties xs ys)

pub name_ties : (a b : NameKey) → is_name a.scope (map string_bytes a.path.items) b ≡ is_at ((name_order.ghosts).cmp a) b
name_ties a b = both_tied _ _ _ _ (unsigned_ties a.scope.0 b.scope.0) (texts_ties a.path.items b.path.items)

pub member_ties : (a b : MemberKey) → is_member a.scope a.adt (string_bytes a.name) b ≡ is_at ((member_order.ghosts).cmp a) b
member_ties a b =
    both_tied _ _ _ _ (unsigned_ties a.scope.0 b.scope.0)
    (both_tied _ _ _ _ (unsigned_ties a.adt.0 b.adt.0) (text_ties a.name b.name))

same_paths : (a b : List (List ℕ)) → pointwise bytes_eq a b ≡ true → a ≡ b
same_paths a b is = (slice_eq-Decides bytes_eq-Decides a b (pointwise bytes_eq a b) refl).0 is

-- ** A test that one key passes is passed by those that the order doesn't tell apart from it.

pub name_test : (scope : ScopeId) (path : List (List ℕ)) → IsKeyTest (eq_by_cmp (name_order.ghosts).cmp) (is_name scope path)
name_test scope path x y passes =
    let parts = and_parts (scope.0 == x.scope.0) (pointwise bytes_eq path (map string_bytes x.path.items)) passes in
    (λ i.
    (eqb-true scope.0 x.scope.0 parts.0 i == y.scope.0)
    && pointwise bytes_eq (same_paths path (map string_bytes x.path.items) parts.1 i) (map string_bytes y.path.items))
    ∙ name_ties x y

pub member_test : (scope : ScopeId) (adt : DefId) (name : List ℕ) → IsKeyTest (eq_by_cmp (member_order.ghosts).cmp) (is_member scope adt name)
member_test scope adt name x y passes =
    let parts = and_parts (scope.0 == x.scope.0) ((adt.0 == x.adt.0) && bytes_eq name (string_bytes x.name)) passes in
    let later = and_parts (adt.0 == x.adt.0) (bytes_eq name (string_bytes x.name)) parts.1 in
    (λ i.
    (eqb-true scope.0 x.scope.0 parts.0 i == y.scope.0)
    && ((eqb-true adt.0 x.adt.0 later.0 i == y.adt.0)
    && bytes_eq ((bytes_eq-Decides name (string_bytes x.name)).0 later.1 i) (string_bytes y.name)))
    ∙ member_ties x y

-- ** A look-up by a key is one by its plain test.

pub found_node : {V : Type 0} (map : BTreeMap NodeId V) (node : NodeId) → lookup (same_id node) map.entries ≡ get ((id_order.ghosts).cmp) map node
found_node map node = lookup_alike (same_id node) (is_at ((id_order.ghosts).cmp node)) (id_ties node) map.entries

pub found_name : {V : Type 0} (names : BTreeMap NameKey V) (key : NameKey)
    → lookup (is_name key.scope (map string_bytes key.path.items)) names.entries ≡ get ((name_order.ghosts).cmp) names key
found_name names key =
    lookup_alike (is_name key.scope (map string_bytes key.path.items)) (is_at ((name_order.ghosts).cmp key)) (name_ties key) names.entries

pub found_member : {V : Type 0} (members : BTreeMap MemberKey V) (key : MemberKey)
    → lookup (is_member key.scope key.adt (string_bytes key.name)) members.entries ≡ get ((member_order.ghosts).cmp) members key
found_member members key =
    lookup_alike (is_member key.scope key.adt (string_bytes key.name)) (is_at ((member_order.ghosts).cmp key)) (member_ties key) members.entries
