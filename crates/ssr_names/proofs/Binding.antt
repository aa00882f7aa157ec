-- What is kept of the names that functions bind, and that no row is of such a name.
use Rattle.std.proofs.Common.{◌≡◌, ℕ, ◌+◌, ◌<◌, Bool, true, false, cond, ◌&&◌, true≢false, List, [], ◌∷◌, length, take, get_or, slice_get, Contains, Some, None, refl, sym, ◌∙◌, subst, inl, inr}
use Rattle.std.proofs.lemmas.Bool.{cond-false, false_from_ne_true}
use Rattle.std.proofs.lemmas.List.Elements.{recursion_from_All}
use Rattle.std.proofs.lemmas.Map.Views.{All-keys-insert_entry}
use Rattle.std.proofs.lemmas.Option.{none-some, same_Some, get_or_from_slice_get}
use Rattle.std.specs.Prelude.{Result, Ok, Err, OnOk}
use Rattle.std.specs.BTreeMap.{BTreeMap, get, get_by_text, insert_entry, is_at}
use Rattle.std.specs.List.{AllByRecursion}
use Rattle.std.specs.Map.{keys_of, lookup}
use Rattle.std.specs.BTreeSet.{BTreeSet, Updates}
use Rattle.ssr_syntax_tree.specs.Syntax.{Syntax}
use Rattle.ssr_syntax_tree.specs.declared.number.Element.{Element}
use Rattle.ssr_syntax_tree.specs.Places.{Node, node_of, parts_of, elements_of}
use Rattle.ssr_syntax_kinds.specs.declared.kinds.SyntaxKind.TheVariants as k
use Rattle.ide_ssr_resolved_rule.specs.Paths.{first_of_kind}
use Rattle.ssr_base_trees.specs.declared.ids.NodeId.{NodeId}
use Rattle.ssr_base_trees.specs.declared.semantics.Res.{Res}
use Rattle.ssr_base_trees.specs.contracts.ids.NodeIdOrd.TheImpl as id_order
use Rattle.ssr_base_trees.proofs.Shared.{same_nodes, id_ties}
use Rattle.ssr_base_trees.specs.Workspace.{Workspace, PlacedTree, trees, tree_of}
use Rattle.ssr_base_trees.specs.Laws.{IsBelow}
use Rattle.ssr_names_items.specs.declared.table.Name.{Name}
use Rattle.ssr_names.specs.declared.definitions.Definition.{Definition}
use Rattle.ssr_names.specs.declared.definitions.Meaning.TheVariants as meaning
use Rattle.ssr_names.specs.declared.locals.Bound.{Bound}
use Rattle.ssr_names.specs.declared.resolving.Row.{Row}
use Rattle.ssr_names.specs.declared.words.Words.{Words}
use Rattle.ssr_names.specs.declared.words.Binder.{Binder}
use Rattle.ssr_names.specs.contracts.locals.BoundOrd.TheImpl as bound_order
use Rattle.ssr_names.specs.Locals.{value_name, plain_name, is_function_at, HasParameter, HasParameterAt, IsParameter, IsBoundName, IsLocal, IsOfGenerics}
use Rattle.ssr_names.specs.Private.Locals.{sure_binder, is_bound, IsBoundBy, StaysBound, BindAround, BindAll, CollectsAll, IsRight, HasNoLocal}
use Rattle.ssr_names.proofs.Climbing.{one_more, told_here}

-- ** One more name.

bound_as : NodeId → Name → Bound
bound_as function name = record { function = function; name = name }

still : (b c : Bool) → c ≡ true → cond b true c ≡ true
still true c is = refl
still false c is = is

module _ (old new : BTreeSet Bound) (function : NodeId) (name : Name)
    (updates : Updates ((bound_order.ghosts).cmp) old new (record { function = function; name = name }) true) where
  pub stays_bound : StaysBound old new
  stays_bound other text had =
      updates.0 (record { function = other; name = text })
      ∙ still (is_at ((bound_order.ghosts).cmp (record { function = function; name = name })) (record { function = other; name = text })) _ had

  pub now_bound : is_bound new function name ≡ true
  now_bound = updates.1

-- ** The functions among nodes.

-- those among the first nodes bind a name
abbrev pub BindFirst : List PlacedTree → List NodeId → ℕ → BTreeSet Bound → Name → Type 0
BindFirst ts nodes i bound name =
    (function : NodeId) → Contains (take i nodes) function → is_function_at ts function ≡ true → is_bound bound function name ≡ true

module _ (ts : List PlacedTree) (nodes : List NodeId) (i : ℕ) (node : NodeId) (within : i < length nodes) (is : get_or nodes i node ≡ node) (name : Name) where
  pub bind_none : (bound : BTreeSet Bound) → is_function_at ts node ≡ false → BindFirst ts nodes i bound name → BindFirst ts nodes (i + 1) bound name
  bind_none bound free so_far function had here =
      elim (one_more nodes i node function within is had) [
        | inl before ↦ so_far function before here
        | inr same ↦ absurd (true≢false (sym here ∙ subst (λ x. is_function_at ts x ≡ false) same free))
      ]

  pub bind_one : (old new : BTreeSet Bound) → StaysBound old new → is_bound new node name ≡ true → BindFirst ts nodes i old name → BindFirst ts nodes (i + 1) new name
  bind_one old new stays here so_far function had is_one =
      elim (one_more nodes i node function within is had) [
        | inl before ↦ stays function name (so_far function before is_one)
        | inr same ↦ subst (λ x. is_bound new x name ≡ true) same here
      ]

  pub free_more : (bound : BTreeSet Bound) → (IsBoundBy ts bound node name → ⊥)
      → ((function : NodeId) → Contains (take i nodes) function → IsBoundBy ts bound function name → ⊥)
      → (function : NodeId) → Contains (take (i + 1) nodes) function → IsBoundBy ts bound function name → ⊥
  free_more bound free so_far function had binds =
      elim (one_more nodes i node function within is had) [
        | inl before ↦ so_far function before binds
        | inr same ↦ free (subst (λ x. IsBoundBy ts bound x name) (sym same) binds)
      ]

pub no_parameter_more : (ts : List PlacedTree) (nodes : List NodeId) (i : ℕ) (node : NodeId) (within : i < length nodes) (is : get_or nodes i node ≡ node) (name : List ℕ)
    → (HasParameterAt ts node name → ⊥) → ((item : NodeId) → Contains (take i nodes) item → HasParameterAt ts item name → ⊥)
    → (item : NodeId) → Contains (take (i + 1) nodes) item → HasParameterAt ts item name → ⊥
no_parameter_more ts nodes i node within is name free so_far item had has =
    elim (one_more nodes i node item within is had) [
      | inl before ↦ so_far item before has
      | inr same ↦ free (subst (λ x. HasParameterAt ts x name) (sym same) has)
    ]

-- ** The binders.

module _ (ts : List PlacedTree) (binders : List Binder) (i : ℕ) (binder : Binder) (within : i < length binders) (is : get_or binders i binder ≡ binder) where
  pub bind_next : (old new : BTreeSet Bound) → StaysBound old new → ((node : NodeId) (name : Name) → binder ≡ sure_binder node name → BindAround ts new node name)
      → BindAll ts old (take i binders) → BindAll ts new (take (i + 1) binders)
  bind_next old new stays here so_far node name had =
      elim (one_more binders i binder (sure_binder node name) within is had) [
        | inl before ↦ (λ function below is_one. stays function name (so_far node name before function below is_one))
        | inr same ↦ here node name same
      ]

-- ** No row is of a name that is bound.

both_true : (a b : Bool) → a ≡ true → b ≡ true → (a && b) ≡ true
both_true true true e f = refl
both_true true false e f = f
both_true false b e f = e

module _ (w : Workspace) (path : NodeId) (tree : Syntax) (there : Some tree ≡ tree_of w path.tree) where
  pub local_is_bound : (words : Words) (bound : BTreeSet Bound) (text : List ℕ) (name : Name) → Some text ≡ value_name tree path.node.0 → Some name ≡ get_by_text words.asked text
      → CollectsAll (trees w) words → BindAll (trees w) bound words.binders.items
      → ((function : NodeId) → IsBelow (trees w) path function → IsBoundBy (trees w) bound function name → ⊥) → IsLocal (trees w) path → ⊥
  local_is_bound words bound text name named asks collected binds free local =
      let known = told_here w (λ s. value_name s path.node.0) path local.name tree there local.named in
      let same : text ≡ local.name = same_Some text local.name (named ∙ known.1) in
      let asked : get_by_text words.asked local.name ≡ Some name = subst (λ t. get_by_text words.asked t ≡ Some name) same (sym asks) in
      let had = collected local.pattern local.name name local.binds asked in
      let here = binds local.pattern name had local.function local.around_pattern local.is_function in
      free local.function local.around_path (both_true (is_function_at (trees w) local.function) (is_bound bound local.function name) local.is_function here)

  pub local_is_named : None ≡ value_name tree path.node.0 → IsLocal (trees w) path → ⊥
  local_is_named none local =
      let known = told_here w (λ s. value_name s path.node.0) path local.name tree there local.named in
      none-some local.name (none ∙ known.1)

  pub generics_have : (text : List ℕ) → Some text ≡ plain_name tree path.node.0 → ((item : NodeId) → IsBelow (trees w) path item → HasParameterAt (trees w) item text → ⊥)
      → IsOfGenerics (trees w) path → ⊥
  generics_have text named free generics =
      let known = told_here w (λ s. plain_name s path.node.0) path generics.name tree there generics.named in
      let same : text ≡ generics.name = same_Some text generics.name (named ∙ known.1) in
      free generics.item generics.around (subst (HasParameterAt (trees w) generics.item) (sym same) generics.has)

  pub generics_are_named : None ≡ plain_name tree path.node.0 → IsOfGenerics (trees w) path → ⊥
  generics_are_named none generics =
      let known = told_here w (λ s. plain_name s path.node.0) path generics.name tree there generics.named in
      none-some generics.name (none ∙ known.1)

-- ** The rows of a provider.

pub on_ok : {T E : Type 0} (r : Result T E) (P : Type 0) → P → OnOk r P
on_ok (Ok x) P p = p
on_ok (Err e) P p = tt

pub on_ok_too : {T E : Type 0} (r : Result T E) (P Q : Type 0) → (P → Q) → OnOk r P → OnOk r Q
on_ok_too (Ok x) P Q follows p = follows p
on_ok_too (Err e) P Q follows p = tt

module _ (ts : List PlacedTree) where
  pub one_row : (old new : List (NodeId × Res)) (node : NodeId) (thing : Res) → new ≡ insert_entry ((id_order.ghosts).cmp) old node thing
      → (IsBoundName ts node → ⊥) → HasNoLocal ts old → HasNoLocal ts new
  one_row old new node thing is free so_far =
      subst (HasNoLocal ts) (sym is) (All-keys-insert_entry ((id_order.ghosts).cmp) node thing (λ x. IsBoundName ts x → ⊥) old so_far free)

  -- a row that tells of a definition isn't that of a name that is bound
  pub not_bound : (row : Row) (definition : Definition) → (row.meaning ≡ meaning.Unknown → Some definition ≡ None) → IsRight ts row → IsBoundName ts row.node → ⊥
  not_bound row definition one right bound = none-some definition (sym (one (right bound)))

  exact : (a b : NodeId) → is_at ((id_order.ghosts).cmp a) b ≡ true → a ≡ b
  exact a b is = same_nodes a b (id_ties a b ∙ is)

  none_of : (path : NodeId) → IsBoundName ts path → (rows : List (NodeId × Res)) → AllByRecursion (λ x. IsBoundName ts x → ⊥) (keys_of rows)
      → lookup (is_at ((id_order.ghosts).cmp path)) rows ≡ None
  none_of path bound [] all = refl
  none_of path bound (row ∷ rows) all =
      cond-false (is_at ((id_order.ghosts).cmp path) row.0) (Some row.1) (lookup (is_at ((id_order.ghosts).cmp path)) rows)
      (false_from_ne_true (is_at ((id_order.ghosts).cmp path) row.0) (λ here. all.0 (subst (IsBoundName ts) (exact path row.0 here) bound)))
      ∙ none_of path bound rows all.1

  pub nothing_told : (rows : BTreeMap NodeId Res) → HasNoLocal ts rows.entries → (path : NodeId) → IsBoundName ts path → get ((id_order.ghosts).cmp) rows path ≡ None
  nothing_told rows all path bound = none_of path bound rows.entries (recursion_from_All (λ x. IsBoundName ts x → ⊥) (keys_of rows.entries) all)

-- ** Generic parameters.

module _ (tree : Syntax) (children : List Element) (i : ℕ) (child : Element) (within : i < length children) (is : slice_get children i ≡ Some child) (name : List ℕ) where
  pub no_child_more : (IsParameter tree child name → ⊥) → ((other : Element) → Contains (take i children) other → IsParameter tree other name → ⊥)
      → (other : Element) → Contains (take (i + 1) children) other → IsParameter tree other name → ⊥
  no_child_more free so_far other had named =
      elim (one_more children i child other within (get_or_from_slice_get children i child child is) had) [
        | inl before ↦ so_far other before named
        | inr same ↦ free (subst (λ x. IsParameter tree x name) (sym same) named)
      ]

module _ (tree : Syntax) (item : ℕ) (name : List ℕ) where
  pub not_listed : (list : Node) → Some list ≡ first_of_kind k.GENERIC_PARAM_LIST (parts_of (node_of tree item))
      → ((child : Element) → Contains (elements_of list) child → IsParameter tree child name → ⊥) → HasParameter tree item name → ⊥
  not_listed list is free has =
      free has.parameter (subst (λ l. Contains (elements_of l) has.parameter) (same_Some has.list list (sym has.listed ∙ sym is)) has.among) has.is

  pub no_list : None ≡ first_of_kind k.GENERIC_PARAM_LIST (parts_of (node_of tree item)) → HasParameter tree item name → ⊥
  no_list none has = none-some has.list (none ∙ has.listed)
