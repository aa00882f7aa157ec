-- What stands above nodes, step by step.
use Rattle.std.proofs.Common.{◌≡◌, ℕ, zero, suc, ◌+◌, ◌<◌, ◌≤◌, Bool, true, false, List, [], ◌∷◌, ◌++◌, length, take, get_or, Contains, Option, Some, None, refl, sym, ap, ◌∙◌, subst, inl, inr, ◌⊎◌, ltb-true, arith, add-one}
use Rattle.std.proofs.Math.Seq.{take-suc}
use Rattle.std.proofs.lemmas.List.Elements.{Contains-append_left, Contains-push, Contains-push_cases}
use Rattle.std.proofs.lemmas.Option.{none-some, same_Some}
use Rattle.std.specs.Prelude.{if◌then◌else◌}
use Rattle.std.specs.Option.{option_and_then, option_map}
use Rattle.ssr_syntax_tree.specs.Syntax.{Syntax, node_count}
use Rattle.ssr_syntax_tree.specs.Places.{HasNode}
use Rattle.ssr_base_trees.specs.declared.ids.NodeId.{NodeId}
use Rattle.ssr_base_trees.specs.Workspace.{Workspace, PlacedTree, trees, tree_of, with_number, has_node, told_of, above}
use Rattle.ssr_base_trees.specs.Laws.{climbed, IsBelow}

then_some : {A B : Type 0} (f : A → Option B) (o : Option A) (y : B) → option_and_then f o ≡ Some y → (x : A) × (o ≡ Some x) × (f x ≡ Some y)
then_some f None y is = absurd (none-some y is)
then_some f (Some x) y is = (x, refl, is)

-- above a node stands what is directly above it, or what stands above that
pub below_up : (ts : List PlacedTree) (x y a : NodeId) → above ts x ≡ Some y → IsBelow ts x a → (y ≡ a) ⊎ IsBelow ts y a
below_up ts x y a up below =
    let first = then_some (climbed ts below.0) (above ts x) a below.1 in
    from below.0 (subst (λ y. climbed ts below.0 y ≡ Some a) (same_Some first.0 y (sym first.1 ∙ up)) first.2)
  where
    from : (n : ℕ) → climbed ts n y ≡ Some a → (y ≡ a) ⊎ IsBelow ts y a
    from zero is = inl (same_Some y a is)
    from (suc n) is = inr (n, is)

pub below_nothing : (ts : List PlacedTree) (x a : NodeId) → above ts x ≡ None → IsBelow ts x a → ⊥
below_nothing ts x a up below =
    let first = then_some (climbed ts below.0) (above ts x) a below.1 in
    none-some first.0 (sym up ∙ first.1)

-- what a tree of a workspace tells of a node
pub told_tree : {A : Type 0} (w : Workspace) (tell : Syntax → Option A) (x : NodeId) (value : A) → told_of (λ p. tell p.syntax) (trees w) x ≡ Some value
    → (s : Syntax) × (tree_of w x.tree ≡ Some s) × HasNode s x.node.0 × (tell s ≡ Some value)
told_tree {A} w tell x value told =
    let first = then_some (λ p. if has_node p.syntax x.node.0 then tell p.syntax else None) (with_number (trees w) x.tree) value told in
    tested first.0 first.1 (has_node first.0.syntax x.node.0) refl first.2
  where
    tested : (p : PlacedTree) → with_number (trees w) x.tree ≡ Some p → (b : Bool) → has_node p.syntax x.node.0 ≡ b → ◌≡◌ {A = Option A} (if b then tell p.syntax else None) (Some value)
        → (s : Syntax) × (tree_of w x.tree ≡ Some s) × HasNode s x.node.0 × (tell s ≡ Some value)
    tested p is true test here = (p.syntax, ap (option_map (λ p. p.syntax)) is, ltb-true x.node.0 (1 + node_count p.syntax.children) test, here)
    tested p is false test here = absurd (none-some value here)

-- of the tree that is known to be there
pub told_here : {A : Type 0} (w : Workspace) (tell : Syntax → Option A) (x : NodeId) (value : A) (s : Syntax) → Some s ≡ tree_of w x.tree
    → told_of (λ p. tell p.syntax) (trees w) x ≡ Some value → HasNode s x.node.0 × (tell s ≡ Some value)
told_here w tell x value s is told =
    let known = told_tree w tell x value told in
    let same : known.0 ≡ s = same_Some known.0 s (sym known.1 ∙ sym is) in
    (subst (λ s. HasNode s x.node.0) same known.2, subst (λ s. tell s ≡ Some value) same known.3)

-- ** The nodes above, one by one.

pub above_so_far : (ts : List PlacedTree) (found new : List NodeId) (node at up : NodeId) → new ≡ found ++ up ∷ [] → above ts at ≡ Some up
    → ((a : NodeId) → IsBelow ts node a → Contains found a ⊎ IsBelow ts at a) → (a : NodeId) → IsBelow ts node a → Contains new a ⊎ IsBelow ts up a
above_so_far ts found new node at up added is so_far a below =
    elim (so_far a below) [
      | inl had ↦ inl (subst (λ xs. Contains xs a) (sym added) (Contains-append_left found (up ∷ []) a had))
      | inr further ↦ elim (below_up ts at up a is further) [
        | inl same ↦ inl (subst (λ xs. Contains xs a) (sym added) (subst (Contains (found ++ up ∷ [])) same (Contains-push found up)))
        | inr on ↦ inr on
      ]
    ]

pub above_all : (ts : List PlacedTree) (found : List NodeId) (node at : NodeId) → above ts at ≡ None
    → ((a : NodeId) → IsBelow ts node a → Contains found a ⊎ IsBelow ts at a) → (a : NodeId) → IsBelow ts node a → Contains found a
above_all ts found node at is so_far a below =
    elim (so_far a below) [ inl had ↦ had | inr further ↦ absurd (below_nothing ts at a is further) ]

-- one more of a list
pub one_more : {A : Type 0} (xs : List A) (i : ℕ) (x y : A) → i < length xs → get_or xs i x ≡ x → Contains (take (i + 1) xs) y → Contains (take i xs) y ⊎ (x ≡ y)
one_more xs i x y within is had =
    let next : take (i + 1) xs ≡ take i xs ++ x ∷ [] = ap (λ n. take n xs) (add-one i) ∙ take-suc xs i x within ∙ ap (λ y. take i xs ++ y ∷ []) is in
    Contains-push_cases (take i xs) x y (subst (λ ys. Contains ys y) next had)

pub get_again : {A : Type 0} (xs : List A) (i : ℕ) (d e : A) → i < length xs → get_or xs i e ≡ get_or xs i d
get_again [] i d e within = absurd (omega arith)
get_again (x ∷ xs) zero d e within = refl
get_again (x ∷ xs) (suc i) d e within = get_again xs i d e (omega arith)

pub take_whole : {A : Type 0} (xs : List A) (n : ℕ) → length xs ≤ n → take n xs ≡ xs
take_whole [] zero all = refl
take_whole [] (suc n) all = refl
take_whole (x ∷ xs) zero all = absurd (omega arith)
take_whole (x ∷ xs) (suc n) all = ap (λ ys. x ∷ ys) (take_whole xs n (omega arith))

-- of a tree that isn't there nothing is told
pub told_nothing : {A : Type 0} (w : Workspace) (tell : Syntax → Option A) (x : NodeId) (value : A) → None ≡ tree_of w x.tree → told_of (λ p. tell p.syntax) (trees w) x ≡ Some value → ⊥
told_nothing w tell x value none told =
    let known = told_tree w tell x value told in
    none-some known.0 (none ∙ known.1)

pub none_in : {A : Type 0} (x : A) → Contains [] x → ⊥
none_in x had = absurd (omega (arith, had.1))
