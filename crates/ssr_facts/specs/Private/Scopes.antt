-- Private: the shortest of the scopes of a tree, and the scopes that are kept while nodes are asked in their order.
use Rattle.std.specs.Prelude.{ℕ, ◌+◌, ◌-◌, ◌==◌, ◌≡◌, ◌<◌, ◌≤◌, ◌⊎◌, if◌then◌else◌, List, [], ◌∷◌, Contains, Option, Some, None}
use Rattle.ssr_syntax_tree.specs.Syntax.{Syntax}
use Rattle.ssr_syntax_tree.specs.Places.{node_of, start_of, end_of}
use Rattle.ssr_base_trees.specs.declared.ids.ScopeId.{ScopeId}
use Rattle.ssr_facts_rows.specs.declared.places.PlaceRow.{PlaceRow}
use Rattle.ssr_facts.specs.declared.scopes.Scope.{Scope}

-- the scopes of one tree, which are numbered by their rows from n on
abbrev pub scopes_in : ℕ → ℕ → List PlaceRow → List Scope
scopes_in t n [] = []
scopes_in t n (row ∷ rows) =
    if row.tree == t then record { start = row.start; end = row.end; number = n } ∷ scopes_in t (n + 1) rows else scopes_in t (n + 1) rows

-- a scope is shorter than another one, or as short and its row stands behind
abbrev pub IsBetter : Scope → Scope → Type 0
IsBetter a b = (a.end - a.start < b.end - b.start) ⊎ ((a.end - a.start ≡ b.end - b.start) × (b.number < a.number))

-- a scope is shorter than another one, or as short and its row stands behind or is the same
abbrev pub AsGood : Scope → Scope → Type 0
AsGood a b = (a.end - a.start < b.end - b.start) ⊎ ((a.end - a.start ≡ b.end - b.start) × (b.number ≤ a.number))

abbrev pub IsAround : ℕ → ℕ → Scope → Type 0
IsAround start end scope = (scope.start ≤ start) × (end ≤ scope.end)

-- the best of the scopes that hold a span
abbrev pub IsBest : ℕ → ℕ → List Scope → Option Scope → Type 0
IsBest start end scopes None = (y : Scope) → Contains scopes y → IsAround start end y → ⊥
IsBest start end scopes (Some v) =
    Contains scopes v × IsAround start end v × ((y : Scope) → Contains scopes y → IsAround start end y → AsGood v y)

-- ** What is kept of the scopes that began, at their ends.

-- a scope is kept that ends where y does or behind it, and is as good as y
pub record Covers (kept : ℕ → Option Scope) (y : Scope) : Type 0 where
  pub end : ℕ
  pub scope : Scope
  pub is : kept end ≡ Some scope
  pub behind : y.end ≤ end
  pub good : AsGood scope y

pub record IsKept (kept : ℕ → Option Scope) (begun : List Scope) : Type 0 where
  -- each kept scope stands at its end
  pub own : (k : ℕ) (v : Scope) → kept k ≡ Some v → (v.end ≡ k) × Contains begun v
  -- kept scopes that end farther behind are worse
  pub stairs : (j k : ℕ) (a b : Scope) → j < k → kept j ≡ Some a → kept k ≡ Some b → IsBetter a b
  pub covered : (y : Scope) → Contains begun y → Covers kept y

-- scopes are kept while x comes in: it covers what goes out for it, and is better than what stays at its end or behind it
pub record IsKeptBeside (kept : ℕ → Option Scope) (begun : List Scope) (x : Scope) : Type 0 where
  pub own : (k : ℕ) (v : Scope) → kept k ≡ Some v → (v.end ≡ k) × Contains begun v
  pub stairs : (j k : ℕ) (a b : Scope) → j < k → kept j ≡ Some a → kept k ≡ Some b → IsBetter a b
  pub covered : (y : Scope) → Contains begun y → Covers kept y ⊎ ((y.end ≤ x.end) × AsGood x y)
  pub behind : (k : ℕ) (v : Scope) → x.end ≤ k → kept k ≡ Some v → IsBetter x v

-- the first scope that is kept at an end or behind it
abbrev pub IsFirst : (ℕ → Option Scope) → ℕ → Option Scope → Type 0
IsFirst kept end None = (k : ℕ) (v : Scope) → end ≤ k → kept k ≡ Some v → ⊥
IsFirst kept end (Some v) = (k : ℕ) × (end ≤ k) × (kept k ≡ Some v) × ((j : ℕ) (u : Scope) → end ≤ j → kept j ≡ Some u → k ≤ j)

-- the last scope that is kept up to the end of x, where x is as good: it goes out for x
pub record IsWorse (kept : ℕ → Option Scope) (x : Scope) (end : ℕ) : Type 0 where
  pub scope : Scope
  pub is : kept end ≡ Some scope
  pub within : end ≤ x.end
  pub worse : AsGood x scope

-- where nothing goes out for x, the last scope that is kept up to its end is better than x
pub record IsPassed (kept : ℕ → Option Scope) (x : Scope) (k : ℕ) : Type 0 where
  pub end : ℕ
  pub scope : Scope
  pub is : kept end ≡ Some scope
  pub within : end ≤ x.end
  pub behind : k ≤ end
  pub better : IsBetter scope x

-- ** Nodes.

-- the best of the scopes that hold the node of a number
abbrev pub IsBestAt : Syntax → ℕ → List Scope → Option Scope → Type 0
IsBestAt tree n scopes best = IsBest (start_of tree (node_of tree n)) (end_of tree (node_of tree n)) scopes best

abbrev pub id_of : Scope → ScopeId
id_of scope = record { 0 = scope.number }
