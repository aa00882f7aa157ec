-- Tables that are made of the rows of a facts file mean what these tell.
use Rattle.std.proofs.Common.{◌≡◌, List, [], ◌∷◌, ◌++◌, map, Bool, cond, true, false, ◌&&◌, Option, Some, None, string_bytes, refl, sym, ap, ◌∙◌}
use Rattle.std.proofs.lemmas.List.Folds.{list_all-map}
use Rattle.std.specs.Prelude.{filter, is_some, Vec}
use Rattle.std.specs.Global.{Global}
use Rattle.std.specs.BTreeMap.{is_at}
use Rattle.std.specs.List.{filter_map, cons_option, list_all}
use Rattle.std.specs.Map.{lookup, keys_of}
use Rattle.std.specs.Option.{option_map, option_map_or, option_and_then}
use Rattle.ssr_syntax_kinds.specs.declared.kinds.SyntaxKind.TheVariants as k
use Rattle.ssr_base_trees.specs.declared.ids.NodeId.{NodeId}
use Rattle.ssr_base_trees.specs.declared.ids.TypeId.{TypeId}
use Rattle.ssr_base_trees.specs.declared.semantics.SelfKind.TheVariants as self
use Rattle.ssr_base_trees.specs.Workspace.{Workspace, same_id}
use Rattle.ssr_facts_rows.specs.declared.facts.FactRows.{FactRows}
use Rattle.ssr_facts_rows.specs.declared.places.PlaceRow.{PlaceRow}
use Rattle.ssr_facts_rows.specs.contracts.places.PlaceRowOrd.TheImpl as place_order
use Rattle.ssr_facts_rows.specs.Meanings.{plain_name_key, plain_name, plain_member_key, plain_member, plain_types, plain_printed}
use Rattle.ssr_facts_rows.specs.Facts.{PlainFacts, plain_facts}
use Rattle.ssr_facts.specs.declared.tables.Tables.{Tables}
use Rattle.ssr_facts.specs.Naming.{is_tree, is_scope, is_definition, is_resolution, all_named}
use Rattle.ssr_facts.specs.Nodes.{same_place, place_of, node_at}
use Rattle.ssr_facts.specs.Scopes.{scope_of}
use Rattle.ssr_facts.specs.Tables.{is_printed, definition_at, path_of, method_of, callee, stands_for, meanings_of}
use Rattle.ssr_facts.specs.Told as told
use Rattle.ssr_facts.specs.Private.Nodes.{types_at}
use Rattle.ssr_facts.specs.Private.Reading.{rows_named}
use Rattle.ssr_facts.proofs.Lists.{all_alike}
use Rattle.ssr_facts.proofs.Places.{place_ties}
use Rattle.ssr_facts.proofs.Rows.{lookup_alike}

-- ** Look-ups among rows.

-- whose keys are seen in another way
lookup_by_keys : {K L V : Type 0} (test : L → Bool) (key : K → L) (rows : List (K × V)) → lookup test (map {B = L × V} (λ row. (key row.0, row.1)) rows) ≡ lookup (λ x. test (key x)) rows
lookup_by_keys test key [] = refl
lookup_by_keys test key (row ∷ rows) = ap (cond (test (key row.0)) (Some row.1)) (lookup_by_keys test key rows)

-- or whose values are
lookup_of_values : {K V W : Type 0} (test : K → Bool) (value : V → W) (rows : List (K × V)) → lookup test (map {B = K × W} (λ row. (row.0, value row.1)) rows) ≡ option_map value (lookup test rows)
lookup_of_values test value [] = refl
lookup_of_values {K} {V} {W} test value (row ∷ rows) =
    elim (test row.0) as (λ b. cond b (Some (value row.1)) (lookup test (map {B = K × W} (λ row. (row.0, value row.1)) rows)) ≡ option_map value (cond b (Some row.1) (lookup test rows))) [
      | true ↦ refl
      | false ↦ lookup_of_values test value rows
    ]

-- ** Rows that name nodes.

module _ {V : Type 0} (named : PlaceRow → Option NodeId) where
  abbrev pub named_rows : List (PlaceRow × V) → List (NodeId × V)
  named_rows rows = filter_map (λ row. option_map (λ node. (node, row.1)) (named row.0)) rows

  -- a look-up of a node
  lookup_of_nodes : (test : NodeId → Bool) (rows : List (PlaceRow × V)) → lookup test (named_rows rows) ≡ lookup (λ place. option_map_or test (named place) false) rows
  lookup_of_nodes test [] = refl
  lookup_of_nodes test (row ∷ rows) = by (named row.0) (lookup_of_nodes test rows)
    where
      by : (o : Option NodeId) → lookup test (named_rows rows) ≡ lookup (λ place. option_map_or test (named place) false) rows
          → lookup test (cons_option (option_map (λ node. (node, row.1)) o) (named_rows rows))
          ≡ cond (option_map_or test o false) (Some row.1) (lookup (λ place. option_map_or test (named place) false) rows)
      by None later = later
      by (Some node) later = ap (cond (test node) (Some row.1)) later

  keys_of_nodes : (rows : List (PlaceRow × V)) → keys_of (named_rows rows) ≡ filter_map (λ row. named row.0) rows
  keys_of_nodes [] = refl
  keys_of_nodes (row ∷ rows) = by (named row.0) (keys_of_nodes rows)
    where
      by : (o : Option NodeId) → keys_of (named_rows rows) ≡ filter_map (λ row. named row.0) rows
          → keys_of (cons_option (option_map (λ node. (node, row.1)) o) (named_rows rows)) ≡ cons_option o (filter_map (λ row. named row.0) rows)
      by None later = later
      by (Some node) later = ap (λ xs. node ∷ xs) later

-- by another way to find nodes
pub named_alike : {V : Type 0} (named other : PlaceRow → Option NodeId) → ((place : PlaceRow) → named place ≡ other place)
    → (rows : List (PlaceRow × V)) → named_rows named rows ≡ named_rows other rows
named_alike named other alike [] = refl
named_alike named other alike (row ∷ rows) =
    (λ i. cons_option (option_map (λ node. (node, row.1)) (alike row.0 i)) (named_alike named other alike rows i))

pub and_then_alike : {A B : Type 0} (f g : A → Option B) → ((x : A) → f x ≡ g x) → (o : Option A) → option_and_then f o ≡ option_and_then g o
and_then_alike f g alike None = refl
and_then_alike f g alike (Some x) = alike x

-- ** Tables.

-- what tables are made of, by what the functions that make them tell
pub record AreTables (w : Workspace) (rows : FactRows) (t : Tables) : Type 0 where
  pub definitions : t.definitions.items ≡ rows.definitions.items
  pub scopes : (x : NodeId) → lookup (same_id x) t.scopes.items ≡ option_and_then (scope_of rows.scopes.items) (place_of w x)
  pub names : t.names.items ≡ rows.names.items
  pub members : t.members.items ≡ rows.members.items
  pub paths : t.paths.items ≡ named_rows (node_at w k.PATH) rows.paths.items
  pub methods : t.methods.items ≡ named_rows (node_at w k.METHOD_CALL_EXPR) rows.methods.items
  pub types : (x : NodeId) → types_at t.types.items x ≡ option_and_then (λ place. lookup (same_place place) (map plain_types rows.types.items)) (place_of w x)
  pub printed : t.printed.items ≡ rows.printed.items

-- the types of the first row of a place
pub types_first : (rows : List (PlaceRow × Vec TypeId Global)) (place : PlaceRow)
    → option_map (λ (v : Vec TypeId Global). v.items) (lookup (is_at ((place_order.ghosts).cmp place)) rows) ≡ lookup (same_place place) (map plain_types rows)
types_first rows place =
    ap (option_map (λ (v : Vec TypeId Global). v.items)) (sym (lookup_alike (same_place place) (is_at ((place_order.ghosts).cmp place)) (place_ties place) rows))
    ∙ sym (lookup_of_values (same_place place) (λ (v : Vec TypeId Global). v.items) rows)

module _ (w : Workspace) (rows : FactRows) (t : Tables) (made : AreTables w rows t) where
  abbrev pub facts : PlainFacts
  facts = plain_facts rows

  same_path : (x : NodeId) → path_of t x ≡ told.path_of w facts x
  same_path x = ap (lookup (same_id x)) made.paths ∙ lookup_of_nodes (node_at w k.PATH) (same_id x) rows.paths.items

  same_method : (x : NodeId) → method_of t x ≡ told.method_of w facts x
  same_method x = ap (lookup (same_id x)) made.methods ∙ lookup_of_nodes (node_at w k.METHOD_CALL_EXPR) (same_id x) rows.methods.items

  same_path_nodes : keys_of t.paths.items ≡ filter_map (λ row. node_at w k.PATH row.0) rows.paths.items
  same_path_nodes = ap keys_of made.paths ∙ keys_of_nodes (node_at w k.PATH) rows.paths.items

  same_call_nodes : keys_of t.methods.items ≡ filter_map (λ row. node_at w k.METHOD_CALL_EXPR row.0) rows.methods.items
  same_call_nodes = ap keys_of made.methods ∙ keys_of_nodes (node_at w k.METHOD_CALL_EXPR) rows.methods.items

  pub same_meanings : meanings_of t ≡ told.meanings_told w facts
  same_meanings = λ i. record {
    scope = λ x. made.scopes x i;
    lookup = λ scope path.
        (ap (lookup (λ key. told.answers_name scope path (plain_name_key key))) made.names
        ∙ sym (lookup_by_keys (told.answers_name scope path) plain_name_key rows.names.items)) i;
    member = λ scope adt name.
        (ap (lookup (λ key. told.answers_member scope adt name (plain_member_key key))) made.members
        ∙ sym (lookup_by_keys (told.answers_member scope adt name) plain_member_key rows.members.items)) i;
    info = λ def. (definition_at (made.definitions i) def).info;
    adt_type = λ def. (definition_at (made.definitions i) def).adt_type;
    path = λ x. same_path x i;
    method = λ x. option_map (λ m. m.def) (same_method x i);
    types = λ x. made.types x i;
    self_kind = λ x. option_map_or (λ m. m.self_kind) (same_method x i) self.Owned;
    path_from = λ scope def.
        (ap (λ es. option_map string_bytes (lookup (is_printed scope def) es)) made.printed
        ∙ sym (lookup_of_values (is_printed scope def) string_bytes rows.printed.items)) i;
    usages = λ r.
        filter (λ x. stands_for r (same_path x i)) (same_path_nodes i) ++ filter (λ x. stands_for r (callee (same_method x i))) (same_call_nodes i);
  }

-- ** What is named, by the rows as they are stored.

pub named_by_rows : (w : Workspace) (rows : FactRows) (path call : PlaceRow → Option NodeId) → ((place : PlaceRow) → path place ≡ node_at w k.PATH place)
    → ((place : PlaceRow) → call place ≡ node_at w k.METHOD_CALL_EXPR place) → rows_named w rows path call ≡ all_named w (plain_facts rows)
named_by_rows w rows path call paths calls =
    let facts = plain_facts rows in
    λ i.
    list_all (λ row. is_tree w row.tree) rows.scopes.items
    && (sym (list_all-map (λ row. is_scope facts row.0.scope && is_resolution facts row.1) plain_name rows.names.items) i
    && (sym (list_all-map (λ row. is_scope facts row.0.scope && (is_definition facts row.0.adt && is_definition facts row.1)) plain_member rows.members.items) i
    && (all_alike (λ row. is_some (path row.0) && is_resolution facts row.1) (λ row. is_some (node_at w k.PATH row.0) && is_resolution facts row.1)
    (λ row. ap (λ o. is_some o && is_resolution facts row.1) (paths row.0)) rows.paths.items i
    && (all_alike (λ row. is_some (call row.0) && is_definition facts row.1.def) (λ row. is_some (node_at w k.METHOD_CALL_EXPR row.0) && is_definition facts row.1.def)
    (λ row. ap (λ o. is_some o && is_definition facts row.1.def) (calls row.0)) rows.methods.items i
    && (sym (list_all-map (λ row. is_tree w row.0.tree) plain_types rows.types.items) i
    && sym (list_all-map (λ row. is_scope facts row.0.scope && is_definition facts row.0.def) plain_printed rows.printed.items) i)))))
