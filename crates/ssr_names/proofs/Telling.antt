-- What rows tell of paths.
use Rattle.std.specs.Prelude.{IfOk, IfSome, Result, Ok, Err}
use Rattle.std.proofs.Common.{ℕ, ◌≡◌, List, codes, Option, Some, None, slice_get, refl, sym, ◌∙◌, subst, inl, inr}
use Rattle.std.specs.BTreeMap.{BTreeMap}
use Rattle.ssr_base_trees.specs.declared.ids.NodeId.{NodeId}
use Rattle.ssr_base_trees.specs.declared.ids.DefId.{DefId}
use Rattle.ssr_base_trees.specs.declared.semantics.Res.{Res}
use Rattle.ssr_base_trees.specs.declared.semantics.Res.TheVariants as res
use Rattle.ssr_syntax_tree.specs.Syntax.{Syntax}
use Rattle.ssr_base_trees.specs.declared.ids.ScopeId.{ScopeId}
use Rattle.ssr_base_trees.specs.Workspace.{PlacedTree, Workspace, trees, tree_of, with_number}
use Rattle.std.proofs.lemmas.Option.{none-some, same_Some}
use Rattle.std.specs.Option.{option_map}
use Rattle.ssr_names_items.specs.declared.table.ModuleNo.{ModuleNo}
use Rattle.ssr_names_items.specs.declared.table.Table.{Table}
use Rattle.ssr_names_items.specs.Names.{KeepsNumbers, number_of}
use Rattle.ssr_names_items.specs.declared.names.Names.{Names as Numbers}
use Rattle.ssr_names.specs.declared.provider.Names.{Names}
use Rattle.ssr_names.specs.declared.provider.PrintedKey.{PrintedKey}
use Rattle.std.specs.declared.alloc.Global.{Global}
use Rattle.std.specs.Prelude.{String}
use Rattle.ssr_names.proofs.Printing.{paths_lead}
use Rattle.ssr_names_items.specs.declared.table.Name.{Name}
use Rattle.ssr_names.specs.declared.definitions.Definition.{Definition}
use Rattle.ssr_names.specs.declared.definitions.Meaning.TheVariants as meanings
use Rattle.ssr_names.specs.declared.resolving.Row.{Row}
use Rattle.ssr_names.specs.declared.scopes.TreeScopes.{TreeScopes}
use Rattle.ssr_names.specs.declared.space.Space.{Space}
use Rattle.ssr_names.specs.Declarations.{Declares}
use Rattle.ssr_names.specs.Told.{IsNumbered, IsReady, IsTold, IsToldIn, StandsAt, TellsWhatStands, namespace_of}
use Rattle.ssr_names.specs.CodePaths.{IsSpelledAs}
use Rattle.ssr_names.specs.Lookup.{IsOutside, Place}
use Rattle.ssr_names.specs.WholePaths.{WholeStandsFor, whole_path, whole_type, whole_own_macro, whole_macro}
use Rattle.ssr_names.specs.Private.Macros.{IsAsType, type_itself, type_outside}
use Rattle.ssr_names.specs.declared.definitions.Meaning.{Meaning}
use Rattle.ssr_names_items.specs.declared.table.Namespace.TheVariants as ns
use Rattle.ssr_names_items.specs.declared.table.Namespace.{Namespace}
use Rattle.ssr_names_items.specs.declared.table.Start.{Start}
use Rattle.ssr_names.specs.Private.Printed.{AllLead}
use Rattle.ssr_names.specs.Private.Rows.{AreKnown, IsAdded, TellsRow}
use Rattle.ssr_names.specs.Private.Scopes.{scope_in}

module _ (space : Space) (stranger : Name) (scopes : List TreeScopes) (ts : List PlacedTree) where
  -- a row that tells what another one does, or nothing
  pub told_less : (row told : Row) → told.node ≡ row.node → ((d : Definition) → told.meaning ≡ meanings.One d → row.meaning ≡ meanings.One d)
      → TellsRow space stranger scopes ts row → TellsRow space stranger scopes ts told
  told_less row told same less tells d is =
      subst (λ (x : NodeId). StandsAt space stranger (scope_in scopes) ts x d) (sym same) (tells d (less d is))

  pub known_more : (definitions : List Definition) (old new : BTreeMap NodeId Res) (row : Row) (d : Definition) (n : DefId) → row.meaning ≡ meanings.One d
      → slice_get definitions n.0 ≡ Some d → TellsRow space stranger scopes ts row → IsAdded old new row.node (res.Def n)
      → AreKnown space stranger scopes ts definitions old → AreKnown space stranger scopes ts definitions new
  known_more definitions old new row d n is numbered tells added all path r told =
      elim (added path r told) [
        | inl had ↦ all path r had
        | inr one ↦ (
          d,
          subst (λ (x : Res). IsNumbered definitions x d) (sym one.1) numbered,
          subst (λ (x : NodeId). StandsAt space stranger (scope_in scopes) ts x d) (sym one.0) (tells d is),
        )
      ]

-- the tree of a number, with what is known of where it stands
pub placed_at : (w : Workspace) (t : ℕ) (tree : Syntax) → Some tree ≡ tree_of w t → (p : PlacedTree) × (with_number (trees w) t ≡ Some p) × (p.syntax ≡ tree)
placed_at w t tree is = from (with_number (trees w) t) refl (sym is)
  where
    from : (o : Option PlacedTree) → with_number (trees w) t ≡ o → option_map (λ p. p.syntax) o ≡ Some tree → (p : PlacedTree) × (with_number (trees w) t ≡ Some p) × (p.syntax ≡ tree)
    from None held told = absurd (none-some tree told)
    from (Some p) held told = (p, held, same_Some p.syntax tree told)

-- what a path of a tree stands for in the module of its scope, it stands for there
pub stands_in : (space : Space) (stranger : Name) (scopes : List TreeScopes) (w : Workspace) (node : NodeId) (tree : Syntax) (m : ModuleNo) (scope : ScopeId) (d : Definition)
    → Some tree ≡ tree_of w node.tree → scope_in scopes node ≡ Some scope → m.0 ≡ scope.0 → IsToldIn space stranger tree node.node.0 m d
    → StandsAt space stranger (scope_in scopes) (trees w) node d
stands_in space stranger scopes w node tree m scope d is within same told =
    let placed = placed_at w node.tree tree is in
    let module_of : ℕ → ModuleNo = λ n. record { 0 = n } in
    record {
      placed = placed.0;
      is = placed.1;
      scope = scope;
      within = within;
      told = subst (λ (t : Syntax). IsToldIn space stranger t node.node.0 (module_of scope.0) d) (sym placed.2)
          (subst (λ (n : ℕ). IsToldIn space stranger tree node.node.0 (module_of n) d) same told);
    }

-- what declares the same as what declares the same
pub declares_on : (a b c : Table) → Declares a b → Declares b c → Declares a c
declares_on a b c first then = record {
  crates = then.crates ∙ first.crates;
  modules = then.modules ∙ first.modules;
  entries = then.entries ∙ first.entries;
  items = then.items ∙ first.items;
  imports = then.imports ∙ first.imports;
  impls = then.impls ∙ first.impls;
  names = λ text name had. then.names text name (first.names text name had);
}

-- a table declares what it does
pub declares_itself : (table : Table) → Declares table table
declares_itself table = record { crates = refl; modules = refl; entries = refl; items = refl; imports = refl; impls = refl; names = λ text name had. had }

-- what declares the same does so with further names
pub still_declares : (old mid : Table) (names : Numbers) → Declares old mid → KeepsNumbers mid.names names → Declares old (record mid { names = names })
still_declares old mid names had keeps = record {
  crates = had.crates;
  modules = had.modules;
  entries = had.entries;
  items = had.items;
  imports = had.imports;
  impls = had.impls;
  names = λ text name was. keeps text name (had.names text name was);
}

-- what rows tell, the provider by these rows tells
pub tells_rows : (table mid final : Table) (ts : List PlacedTree) (names : Names) (space : Space) (stranger : Name) (definitions : List Definition) (scopes : List TreeScopes) (known : BTreeMap NodeId Res)
    (printed : BTreeMap PrintedKey (String Global)) → Declares table mid → Declares mid final → space.table.now ≡ final → number_of final.names (codes "?") ≡ Some stranger → IsReady space
    → names.scopes.trees.items ≡ scopes → names.known ≡ known → AreKnown space stranger scopes ts definitions known
    → names.printed ≡ printed → AllLead space definitions printed → TellsWhatStands table ts names
tells_rows table mid final ts names space stranger definitions scopes known printed first then held unknown ready scopes_are known_are are printed_are lead = record {
  space = space;
  stranger = stranger;
  is_stranger = subst (λ (t : Table). number_of t.names (codes "?") ≡ Some stranger) (sym held) unknown;
  definitions = definitions;
  declared = subst (λ (t : Table). Declares table t) (sym held) (declares_on table mid final first then);
  ready = ready;
  stands = subst (λ (k : BTreeMap NodeId Res). AreKnown space stranger names.scopes.trees.items ts definitions k) (sym known_are)
      (subst (λ (s : List TreeScopes). AreKnown space stranger s ts definitions known) (sym scopes_are) are);
  printed = paths_lead space definitions names (subst (AllLead space definitions) (sym printed_are) lead);
}

-- a row of a path tells what that stands for in the module of its scope
pub tells_in : (space : Space) (stranger : Name) (scopes : List TreeScopes) (w : Workspace) (node : NodeId) (tree : Syntax) (m : ModuleNo) (row : Row)
    → Some tree ≡ tree_of w node.tree → (scope : ScopeId) × (scope_in scopes node ≡ Some scope) × (m.0 ≡ scope.0) → row.node ≡ node
    → ((d : Definition) → row.meaning ≡ meanings.One d → IsToldIn space stranger tree node.node.0 m d) → TellsRow space stranger scopes (trees w) row
tells_in space stranger scopes w node tree m row is scope same told d means =
    subst (λ (x : NodeId). StandsAt space stranger (scope_in scopes) (trees w) x d) (sym same)
    (stands_in space stranger scopes w node tree m scope.0 d is scope.1 scope.2 (told d means))

-- what holds of a value if there is one, holds of the one that there is
pub if_some : {T : Type 0} (P : T → Type 0) (o : Option T) (x : T) → o ≡ Some x → IfSome o P → P x
if_some P None x is had = absurd (none-some x is)
if_some P (Some y) x is had = subst P (same_Some y x is) had

-- a row that is found of a path of a tree
abbrev pub IsRowIn : Space → Name → NodeId → Syntax → ModuleNo → Row → Type 0
IsRowIn space stranger node tree m row = (row.node ≡ node) × ((d : Definition) → row.meaning ≡ meanings.One d → IsToldIn space stranger tree node.node.0 m d)

-- such a row tells what the path stands for in the module of its scope
pub tells_found : (space : Space) (stranger : Name) (scopes : List TreeScopes) (w : Workspace) (node : NodeId) (tree : Syntax) (m : ModuleNo) (found : Option Row) (row : Row)
    → Some tree ≡ tree_of w node.tree → (scope : ScopeId) × (scope_in scopes node ≡ Some scope) × (m.0 ≡ scope.0) → found ≡ Some row
    → IfSome found (IsRowIn space stranger node tree m) → TellsRow space stranger scopes (trees w) row
tells_found space stranger scopes w node tree m found row is scope one all =
    let held = if_some (IsRowIn space stranger node tree m) found row one all in
    tells_in space stranger scopes w node tree m row is scope held.0 held.1

-- what is found of the names of a path as it is spelled
pub told_in : (space : Space) (stranger : Name) (tree : Syntax) (path : ℕ) (m : ModuleNo) (start : Start) (names : List Name) (n : Namespace) (d : Definition)
    → IsSpelledAs space.table.now.names stranger tree path start names → n ≡ namespace_of tree path → IsTold space m start names n d → IsToldIn space stranger tree path m d
told_in space stranger tree path m start names n d spelled same told =
    record { start = start; names = names; spelled = spelled; told = subst (λ (k : Namespace). IsTold space m start names k d) same told }

-- a type that isn't read stands for another one, where a path stands for the first
as_whole_type : (space : Space) (place : Place) (n : Namespace) (names : List Name) (c d : Definition) → n ≡ ns.Type → IsOutside c → IsOutside d → WholeStandsFor space place n names c
    → WholeStandsFor space place n names d
as_whole_type space place n names c d type outside other (whole_path _ is) = whole_type c d type is outside other
as_whole_type space place n names c d type outside other (whole_type b _ type_too is first _) = whole_type b d type is first other
as_whole_type space place n names c d type outside other (whole_own_macro _ _ _ _ macro _ _ _) = let e : ns.Type ≡ ns.Macro = sym type ∙ macro in cc
as_whole_type space place n names c d type outside other (whole_macro _ _ _ macro _ _) = let e : ns.Type ≡ ns.Macro = sym type ∙ macro in cc

-- what stands for a type where something does is told as that is
pub as_told : (space : Space) (m : ModuleNo) (start : Start) (names : List Name) (n : Namespace) (meaning : Meaning) → n ≡ ns.Type
    → ((d : Definition) → meaning ≡ meanings.One d → IsTold space m start names n d) → (d : Definition) → IsAsType meaning d → IsTold space m start names n d
as_told space m start names n meaning type had d (type_itself _ is) = had d is
as_told space m start names n meaning type had d (type_outside c _ is outside other) = elim (had c is) [
  | inl whole ↦ inl (as_whole_type space _ n names c d type outside other whole)
  | inr own ↦ inr own
]

-- what holds of each value holds where there is one
pub if_ok_all : {T E : Type 0} (r : Result T E) (P : T → Type 0) → ((x : T) → P x) → IfOk r P
if_ok_all (Ok x) P all = all x
if_ok_all (Err e) P all = tt
