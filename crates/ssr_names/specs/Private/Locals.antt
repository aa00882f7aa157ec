-- Private: what is collected of the patterns that bind names, and what is kept of that for each function.
use Rattle.std.specs.Prelude.{ℕ, ◌≡◌, ◌&&◌, Bool, true, false, List, Some, Contains, All}
use Rattle.std.specs.BTreeMap.{get_by_text}
use Rattle.std.specs.BTreeSet.{BTreeSet, contains}
use Rattle.std.specs.Map.{keys_of}
use Rattle.ssr_syntax_tree.specs.Syntax.{Syntax}
use Rattle.ssr_base_trees.specs.declared.ids.NodeId.{NodeId}
use Rattle.ssr_base_trees.specs.declared.semantics.Res.{Res}
use Rattle.ssr_base_trees.specs.Workspace.{PlacedTree}
use Rattle.ssr_base_trees.specs.Laws.{IsBelow}
use Rattle.ssr_names_items.specs.declared.table.Name.{Name}
use Rattle.ssr_names_items.specs.declared.table.Namespace.TheVariants as namespace
use Rattle.ssr_names.specs.declared.definitions.Meaning.TheVariants as meaning
use Rattle.ssr_names.specs.declared.locals.Bound.{Bound}
use Rattle.ssr_names.specs.declared.resolving.Row.{Row}
use Rattle.ssr_names.specs.declared.words.Words.{Words}
use Rattle.ssr_names.specs.declared.words.Binder.{Binder}
use Rattle.ssr_names.specs.contracts.locals.BoundOrd.TheImpl as bound_order
use Rattle.ssr_names.specs.Locals.{bound_name, is_function_at, BindsAt, HasBindingWord, IsBindingWord, IsBoundName}

-- a pattern that binds a name for sure
abbrev pub sure_binder : NodeId → Name → Binder
sure_binder pattern name = record { node = pattern; name = name; namespace = namespace.Value; is_plain = false }

-- what is collected stays, and the same names are asked for
pub record Keeps (old new : Words) : Type 0 where
  pub asked : new.asked ≡ old.asked
  pub binders : (b : Binder) → Contains old.binders.items b → Contains new.binders.items b

-- a node of a tree is among the binders, if it binds a name that is asked for
abbrev pub CollectsPattern : Syntax → Words → NodeId → Type 0
CollectsPattern tree words node =
    (text : List ℕ) (name : Name) → bound_name tree node.node.0 ≡ Some text → get_by_text words.asked text ≡ Some name
    → Contains words.binders.items (sure_binder node name)

-- a node is among them with a token, if that is a word that is asked for
abbrev pub CollectsWord : Syntax → Words → NodeId → ℕ → Type 0
CollectsWord tree words node token =
    (text : List ℕ) (name : Name) → IsBindingWord tree token text → get_by_text words.asked text ≡ Some name
    → Contains words.binders.items (sure_binder node name)

-- a node is among them with each of its words that is asked for, if it is a macro call in the place of a pattern
abbrev pub CollectsCall : Syntax → Words → NodeId → Type 0
CollectsCall tree words node =
    (text : List ℕ) (name : Name) → HasBindingWord tree node.node.0 text → get_by_text words.asked text ≡ Some name
    → Contains words.binders.items (sure_binder node name)

pub record Collects (tree : Syntax) (words : Words) (node : NodeId) : Type 0 where
  pub pattern : CollectsPattern tree words node
  pub call : CollectsCall tree words node

-- each node that binds a name that is asked for is among the binders
abbrev pub CollectsAll : List PlacedTree → Words → Type 0
CollectsAll trees words =
    (node : NodeId) (text : List ℕ) (name : Name) → BindsAt trees node text → get_by_text words.asked text ≡ Some name
    → Contains words.binders.items (sure_binder node name)

abbrev pub is_bound : BTreeSet Bound → NodeId → Name → Bool
is_bound bound function name = contains ((bound_order.ghosts).cmp) bound (record { function = function; name = name })

-- a node is a function that binds a name
abbrev pub IsBoundBy : List PlacedTree → BTreeSet Bound → NodeId → Name → Type 0
IsBoundBy trees bound function name = (is_function_at trees function && is_bound bound function name) ≡ true

-- what is bound stays so
abbrev pub StaysBound : BTreeSet Bound → BTreeSet Bound → Type 0
StaysBound old new = (function : NodeId) (name : Name) → is_bound old function name ≡ true → is_bound new function name ≡ true

-- each function among nodes binds a name
abbrev pub BindAmong : List PlacedTree → BTreeSet Bound → List NodeId → Name → Type 0
BindAmong trees bound nodes name =
    (function : NodeId) → Contains nodes function → is_function_at trees function ≡ true → is_bound bound function name ≡ true

-- each function around a node binds a name
abbrev pub BindAround : List PlacedTree → BTreeSet Bound → NodeId → Name → Type 0
BindAround trees bound node name =
    (function : NodeId) → IsBelow trees node function → is_function_at trees function ≡ true → is_bound bound function name ≡ true

-- each function around one of these patterns binds its name
abbrev pub BindAll : List PlacedTree → BTreeSet Bound → List Binder → Type 0
BindAll trees bound binders =
    (node : NodeId) (name : Name) → Contains binders (sure_binder node name) → BindAround trees bound node name

-- a row of such a path says that it isn't known what that stands for
abbrev pub IsRight : List PlacedTree → Row → Type 0
IsRight trees row = IsBoundName trees row.node → row.meaning ≡ meaning.Unknown

-- no such path has a row
abbrev pub HasNoLocal : List PlacedTree → List (NodeId × Res) → Type 0
HasNoLocal trees rows = All (λ node. IsBoundName trees node → ⊥) (keys_of rows)
