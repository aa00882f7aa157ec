-- What is found or told tree by tree, and in a tree node by node.
use Rattle.std.proofs.Common.{◌≡◌, ℕ, ◌+◌, ◌≤◌, ◌==◌, ◌&&◌, ltb, List, [], ◌∷◌, ◌++◌, Bool, cond, true, false, Option, Some, None, refl, sym, ap, ◌∙◌, inl, inr, arith, eq-eqb, ne_eqb}
use Rattle.std.proofs.lemmas.Bool.{cases_lt, cases_eq, lt-ltb, le-ltb}
use Rattle.std.specs.Prelude.{Vec}
use Rattle.std.specs.Global.{Global}
use Rattle.std.specs.Map.{lookup}
use Rattle.std.specs.Option.{option_or, option_map}
use Rattle.ssr_base_trees.specs.declared.ids.NodeId.{NodeId}
use Rattle.ssr_base_trees.specs.declared.ids.TypeId.{TypeId}
use Rattle.ssr_base_trees.specs.Workspace.{node_id, same_id}
use Rattle.ssr_facts.specs.Private.Nodes.{told_up_to, types_at}
use Rattle.ssr_facts.proofs.Lists.{option_or_none, option_or_assoc, option_map-or}
use Rattle.ssr_facts.proofs.Rows.{lookup_push}

-- ** Trees before a number.

-- a tree more of which something is found
pub tree_more : {A : Type 0} (t number : ℕ) (all old new found : Option A) → old ≡ cond (ltb t number) all None
    → new ≡ option_or old (cond (t == number) found None) → (t ≡ number → found ≡ all) → new ≡ cond (ltb t (number + 1)) all None
tree_more t number all old new found is adds same =
    adds ∙ ap (λ o. option_or o (cond (t == number) found None)) is
    ∙ elim (cases_lt t number) [
      | inl before ↦
          (λ i. option_or (cond (lt-ltb t number before i) all None) (cond (ne_eqb t number (omega arith) i) found None))
          ∙ option_or_none all ∙ ap (λ b. cond b all None) (sym (lt-ltb t (number + 1) (omega arith)))
      | inr behind ↦
          ap (λ b. option_or (cond b all None) (cond (t == number) found None)) (le-ltb t number behind)
          ∙ elim (cases_eq t number) [
            | inl here ↦
                ap (λ b. cond b found None) (eq-eqb t number here) ∙ same here ∙ ap (λ b. cond b all None) (sym (lt-ltb t (number + 1) (omega arith)))
            | inr other ↦
                ap (λ b. cond b found None) (ne_eqb t number other) ∙ ap (λ b. cond b all None) (sym (le-ltb t (number + 1) (omega arith)))
          ]
    ]

-- a number without a tree
pub tree_none : {A : Type 0} (t number : ℕ) (all old : Option A) → old ≡ cond (ltb t number) all None → (t ≡ number → all ≡ None) → old ≡ cond (ltb t (number + 1)) all None
tree_none t number all old is none =
    tree_more t number all old old None is (sym (option_or_none old) ∙ ap (option_or old) (sym (nothing (t == number)))) (λ same. sym (none same))
  where
    nothing : {B : Type 0} (b : Bool) → ◌≡◌ {A = Option B} (cond b None None) None
    nothing true = refl
    nothing false = refl

-- all trees
pub tree_all : {A : Type 0} (t number : ℕ) (all old : Option A) → old ≡ cond (ltb t number) all None → (number ≤ t → all ≡ None) → old ≡ all
tree_all t number all old is past =
    is ∙ elim (cases_lt t number) [
      | inl before ↦ ap (λ b. cond b all None) (lt-ltb t number before)
      | inr behind ↦ ap (λ b. cond b all None) (le-ltb t number behind) ∙ sym (past behind)
    ]

-- ** Nodes of one tree before a number.

module _ {A : Type 0} (t : ℕ) (tell : ℕ → Option A) where
  -- one node more, of which nothing or something is told
  pub told_more : (x : NodeId) (n : ℕ) (old now new : Option A) → now ≡ option_or old (told_up_to t n tell x)
      → new ≡ option_or now (cond (same_id x (node_id t n)) (tell n) None) → new ≡ option_or old (told_up_to t (n + 1) tell x)
  told_more x n old now new is adds =
      adds ∙ ap (λ o. option_or o (cond (same_id x (node_id t n)) (tell n) None)) is
      ∙ option_or_assoc old (told_up_to t n tell x) (cond (same_id x (node_id t n)) (tell n) None)
      ∙ ap (option_or old) (both (x.tree == t))
    where
      both : (b : Bool) → option_or (cond (b && ltb x.node.0 n) (tell x.node.0) None) (cond (b && (x.node.0 == n)) (tell n) None) ≡ cond (b && ltb x.node.0 (n + 1)) (tell x.node.0) None
      both false = refl
      both true =
          elim (cases_lt x.node.0 n) [
            | inl before ↦
                (λ i. option_or (cond (lt-ltb x.node.0 n before i) (tell x.node.0) None) (cond (ne_eqb x.node.0 n (λ e. omega arith) i) (tell n) None))
                ∙ option_or_none (tell x.node.0) ∙ ap (λ b. cond b (tell x.node.0) None) (sym (lt-ltb x.node.0 (n + 1) (omega arith)))
            | inr behind ↦
                ap (λ b. option_or (cond b (tell x.node.0) None) (cond (x.node.0 == n) (tell n) None)) (le-ltb x.node.0 n behind)
                ∙ elim (cases_eq x.node.0 n) [
                  | inl here ↦
                      ap (λ b. cond b (tell n) None) (eq-eqb x.node.0 n here) ∙ ap tell (sym here)
                      ∙ ap (λ b. cond b (tell x.node.0) None) (sym (lt-ltb x.node.0 (n + 1) (omega arith)))
                  | inr other ↦
                      ap (λ b. cond b (tell n) None) (ne_eqb x.node.0 n other)
                      ∙ ap (λ b. cond b (tell x.node.0) None) (sym (le-ltb x.node.0 (n + 1) (omega arith)))
                ]
          ]

-- ** Rows of nodes.

-- one row more
pub lookup_more : {V : Type 0} (rows : List (NodeId × V)) (id : NodeId) (v : V) (x : NodeId)
    → lookup (same_id x) (rows ++ (id, v) ∷ []) ≡ option_or (lookup (same_id x) rows) (cond (same_id x id) (Some v) None)
lookup_more rows id v x = lookup_push (same_id x) rows (id, v)

pub types_more : (rows : List (NodeId × Vec TypeId Global)) (id : NodeId) (v : Vec TypeId Global) (x : NodeId)
    → types_at (rows ++ (id, v) ∷ []) x ≡ option_or (types_at rows x) (cond (same_id x id) (Some v.items) None)
types_more rows id v x =
    ap (option_map (λ (v : Vec TypeId Global). v.items)) (lookup_more rows id v x)
    ∙ option_map-or (λ (v : Vec TypeId Global). v.items) (lookup (same_id x) rows) (cond (same_id x id) (Some v) None)
    ∙ ap (option_or (types_at rows x)) (by (same_id x id))
  where
    by : (b : Bool) → option_map (λ (v : Vec TypeId Global). v.items) (cond b (Some v) None) ≡ cond b (Some v.items) None
    by true = refl
    by false = refl

-- no row more, since nothing is told
pub nothing_more : {A : Type 0} (now : Option A) (b : Bool) (o : Option A) → o ≡ None → now ≡ option_or now (cond b o None)
nothing_more now true o is = sym (option_or_none now) ∙ ap (option_or now) (sym is)
nothing_more now false o is = sym (option_or_none now)
