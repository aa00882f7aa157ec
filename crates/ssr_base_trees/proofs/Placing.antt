-- Laws of trees by their numbers, where the call of each is a node of an earlier one.
use Rattle.std.proofs.Common.{◌≡◌, ◌≢◌, ℕ, ◌+◌, ◌-◌, ◌<◌, ◌≤◌, List, [], ◌∷◌, length, slice_get, Option, Some, None, refl, sym, ap, ◌∙◌, subst, inl, inr, arith, eq-eqb, ne_eqb}
use Rattle.std.proofs.lemmas.Bool.{cases_eq, cases_lt}
use Rattle.std.proofs.lemmas.Option.{none-some, same_Some, slice_get-get_or}
use Rattle.std.specs.Prelude.{IfSome}
use Rattle.std.specs.Option.{IsSomeAnd, option_map, option_map_or}
use Rattle.ssr_syntax_tree.specs.Syntax.{Syntax, source_of}
use Rattle.ssr_syntax_tree.specs.Places.{HasNode}
use Rattle.ssr_base_trees.specs.declared.ids.NodeId.{NodeId}
use Rattle.ssr_base_trees.specs.Workspace.{Expanded, Workspace, PlacedTree, of_file, of_expansion, trees, with_number, tree_of, file_of, nesting, text_at_top}
use Rattle.ssr_base_trees.specs.Built.{IsNodeOf, CallsAreEarlier}
use Rattle.ssr_base_trees.proofs.Numbers.{placed_first, placed_earlier, placed-file, placed-expansion, length-trees, tree_of_file, file_of-earlier, file_of_file}

-- what is known of the value that there is
pub some_and : {A : Type 0} (o : Option A) (P : A → Type 0) → IsSomeAnd o P → (x : A) × (o ≡ Some x) × P x
some_and None P known = absurd known
some_and (Some x) P known = (x, refl, known)

pub and_some : {A : Type 0} (o : Option A) (P : A → Type 0) (x : A) → o ≡ Some x → P x → IsSomeAnd o P
and_some o P x is known = subst (λ o. IsSomeAnd o P) (sym is) known

pub placed_within : (ts : List PlacedTree) (t : ℕ) (p : PlacedTree) → with_number ts t ≡ Some p → t < length ts
placed_within [] t p is = cc
placed_within (q ∷ earlier) t p is =
    elim (cases_eq t (length earlier)) [
      | inl here ↦ omega arith
      | inr other ↦ omega (arith, placed_within earlier t p (sym (placed_earlier q earlier t other) ∙ is))
    ]

pub placed_there : (ts : List PlacedTree) (t : ℕ) → t < length ts → (p : PlacedTree) × (with_number ts t ≡ Some p)
placed_there [] t within = absurd (omega arith)
placed_there (q ∷ earlier) t within =
    elim (cases_eq t (length earlier)) [
      | inl here ↦ (q, placed_first q earlier t here)
      | inr other ↦
          let before = placed_there earlier t (omega arith) in
          (before.0, placed_earlier q earlier t other ∙ before.1)
    ]

-- a tree that was there before
pub placed_more : (q : PlacedTree) (earlier : List PlacedTree) (t : ℕ) (p : PlacedTree) → with_number earlier t ≡ Some p → with_number (q ∷ earlier) t ≡ Some p
placed_more q earlier t p is =
    placed_earlier q earlier t (λ e. omega (arith, placed_within earlier t p is)) ∙ is

pub known_more : (P : PlacedTree → Type 0) (q : PlacedTree) (earlier : List PlacedTree) (t : ℕ) → IsSomeAnd (with_number earlier t) P → IsSomeAnd (with_number (q ∷ earlier) t) P
known_more P q earlier t known =
    let had = some_and (with_number earlier t) P known in
    and_some (with_number (q ∷ earlier) t) P had.0 (placed_more q earlier t had.0 had.1) had.2

-- ** The file at the top.

file_of-here : (p : PlacedTree) (earlier : List PlacedTree) (t : ℕ) → t ≡ length earlier
    → file_of (p ∷ earlier) t ≡ option_map_or (λ call. file_of earlier call.tree) p.call t
file_of-here p earlier t here = rw (eq-eqb t (length earlier) here) refl

file_of-other : (p : PlacedTree) (earlier : List PlacedTree) (t : ℕ) → t ≢ length earlier → file_of (p ∷ earlier) t ≡ file_of earlier t
file_of-other p earlier t other = rw (ne_eqb t (length earlier) other) refl

-- the file of a number is a tree without a call
pub record IsTop (ts : List PlacedTree) (file : ℕ) : Type 0 where
  pub tree : PlacedTree
  pub is : with_number ts file ≡ Some tree
  pub uncalled : tree.call ≡ None

top_more : (q : PlacedTree) (earlier : List PlacedTree) (file : ℕ) → IsTop earlier file → IsTop (q ∷ earlier) file
top_more q earlier file top = record {
  tree = top.tree;
  is = placed_more q earlier file top.tree top.is;
  uncalled = top.uncalled;
}

pub is_top : (ts : List PlacedTree) (t : ℕ) (p : PlacedTree) → CallsAreEarlier ts → with_number ts t ≡ Some p → IsTop ts (file_of ts t)
is_top [] t p grown is = cc
is_top (q ∷ earlier) t p grown is =
    elim (cases_eq t (length earlier)) [
      | inl here ↦ subst (IsTop (q ∷ earlier)) (sym (file_of-here q earlier t here)) (called q.call refl here grown.0 (λ s r e. is_top earlier s r grown.1 e))
      | inr other ↦
          subst (IsTop (q ∷ earlier)) (sym (file_of-other q earlier t other))
          (top_more q earlier (file_of earlier t) (is_top earlier t p grown.1 (sym (placed_earlier q earlier t other) ∙ is)))
    ]
  where
    called : (o : Option NodeId) → q.call ≡ o → t ≡ length earlier → IfSome o (IsNodeOf earlier)
        → ((s : ℕ) (r : PlacedTree) → with_number earlier s ≡ Some r → IsTop earlier (file_of earlier s))
        → IsTop (q ∷ earlier) (option_map_or (λ call. file_of earlier call.tree) o t)
    called None e here node before = record { tree = q; is = placed_first q earlier t here; uncalled = e }
    called (Some call) e here node before =
        let had = some_and (with_number earlier call.tree) (λ p. HasNode p.syntax call.node.0) node in
        top_more q earlier (file_of earlier call.tree) (before call.tree had.0 had.1)

-- its text is the same while trees come
pub text_more : (q : PlacedTree) (earlier : List PlacedTree) (t : ℕ) (p : PlacedTree) → CallsAreEarlier earlier → with_number earlier t ≡ Some p
    → text_at_top (q ∷ earlier) t ≡ text_at_top earlier t
text_more q earlier t p grown is =
    let top = is_top earlier t p grown is in
    let tell : Option PlacedTree → List ℕ = λ o. option_map_or (λ p. source_of p.syntax) o [] in
    ap (λ file. tell (with_number (q ∷ earlier) file)) (file_of-earlier q earlier t (placed_within earlier t p is))
    ∙ ap tell (placed_more q earlier (file_of earlier t) top.tree top.is ∙ sym top.is)

-- ** The call of a tree.

-- the call of a tree that is there is a node of an earlier one
pub record IsCalled (ts : List PlacedTree) (t : ℕ) (call : NodeId) : Type 0 where
  pub earlier : call.tree < t
  pub node : IsNodeOf ts call
  pub file : file_of ts t ≡ file_of ts call.tree

called_more : (q : PlacedTree) (earlier : List PlacedTree) (t : ℕ) (call : NodeId) → t < length earlier → IsCalled earlier t call → IsCalled (q ∷ earlier) t call
called_more q earlier t call within known = record {
  earlier = known.earlier;
  node = known_more (λ p. HasNode p.syntax call.node.0) q earlier call.tree known.node;
  file =
      let before = known.earlier in
      file_of-earlier q earlier t within ∙ known.file ∙ sym (file_of-earlier q earlier call.tree (omega arith));
}

pub is_called : (ts : List PlacedTree) (t : ℕ) (p : PlacedTree) (call : NodeId) → CallsAreEarlier ts → with_number ts t ≡ Some p → p.call ≡ Some call → IsCalled ts t call
is_called [] t p call grown is called = cc
is_called (q ∷ earlier) t p call grown is called =
    elim (cases_eq t (length earlier)) [
      | inl here ↦
          let same : q ≡ p = cc (placed_first q earlier t here, is) in
          let by : q.call ≡ Some call = ap (λ (p : PlacedTree). p.call) same ∙ called in
          let node : IsNodeOf earlier call = subst (λ o. IfSome o (IsNodeOf earlier)) by grown.0 in
          let had = some_and (with_number earlier call.tree) (λ p. HasNode p.syntax call.node.0) node in
          let within = placed_within earlier call.tree had.0 had.1 in
          record {
            earlier = omega arith;
            node = known_more (λ p. HasNode p.syntax call.node.0) q earlier call.tree node;
            file =
                file_of-here q earlier t here
                ∙ ap (λ o. option_map_or (λ call. file_of earlier call.tree) o t) by
                ∙ sym (file_of-earlier q earlier call.tree within);
          }
      | inr other ↦
          let before : with_number earlier t ≡ Some p = sym (placed_earlier q earlier t other) ∙ is in
          called_more q earlier t call (placed_within earlier t p before) (is_called earlier t p call grown.1 before called)
    ]

-- ** Nesting.

pub nesting_more : (q : PlacedTree) (earlier : List PlacedTree) (bound : ℕ) → ((t : ℕ) → nesting earlier t ≤ bound)
    → option_map_or (λ call. 1 + nesting earlier call.tree) q.call 0 ≤ bound → (t : ℕ) → nesting (q ∷ earlier) t ≤ bound
nesting_more q earlier bound before last t =
    elim (cases_eq t (length earlier)) [
      | inl here ↦ rw (eq-eqb t (length earlier) here) last
      | inr other ↦ rw (ne_eqb t (length earlier) other) (before t)
    ]

-- ** Files.

-- a tree without a call is a file's
pub record IsFile (w : Workspace) (file : ℕ) (p : PlacedTree) : Type 0 where
  pub tree : Syntax
  pub is : slice_get w.files file ≡ Some tree
  pub plants : of_file tree ≡ p

-- where the value comes from that is made of another one
pub mapped : {A B : Type 0} (f : A → B) (o : Option A) (y : B) → option_map f o ≡ Some y → (x : A) × (o ≡ Some x) × (f x ≡ y)
mapped f None y is = cc
mapped f (Some x) y is = (x, refl, same_Some (f x) y is)

pub file_at : (w : Workspace) (t : ℕ) (p : PlacedTree) → t < length w.files → with_number (trees w) t ≡ Some p → IsFile w t p
file_at w t p within is =
    let found = mapped of_file (slice_get w.files t) p (sym (placed-file w t within) ∙ is) in
    record { tree = found.0; is = found.1; plants = found.2 }

pub record IsExpansion (w : Workspace) (t : ℕ) (p : PlacedTree) : Type 0 where
  pub expanded : Expanded
  pub is : slice_get w.expansions (t - length w.files) ≡ Some expanded
  pub plants : of_expansion expanded ≡ p

pub expansion_at : (w : Workspace) (t : ℕ) (p : PlacedTree) → length w.files ≤ t → with_number (trees w) t ≡ Some p → IsExpansion w t p
expansion_at w t p behind is =
    let found = mapped of_expansion (slice_get w.expansions (t - length w.files)) p (sym (placed-expansion w t behind) ∙ is) in
    record { expanded = found.0; is = found.1; plants = found.2 }

-- so its number is below that of each expansion
pub uncalled_within : (w : Workspace) (t : ℕ) (p : PlacedTree) → with_number (trees w) t ≡ Some p → p.call ≡ None → t < length w.files
uncalled_within w t p is none =
    elim (cases_lt t (length w.files)) [
      | inl within ↦ within
      | inr behind ↦
          let at = expansion_at w t p behind is in
          absurd (none-some at.expanded.call (sym none ∙ ap (λ (p : PlacedTree). p.call) (sym at.plants)))
    ]

pub own_file : (w : Workspace) (t : ℕ) → t < length w.files → file_of (trees w) t ≡ t
own_file w t within = file_of_file w t (λ behind. absurd (omega arith))

-- there is a tree of each file
pub file_there : (w : Workspace) (n : ℕ) (tree : Syntax) → n < length w.files → Some tree ≡ tree_of w n → slice_get w.files n ≡ Some tree
file_there w n tree less is = sym (is ∙ tree_of_file w n less)

pub none_there : (w : Workspace) (n : ℕ) → n < length w.files → None ≡ tree_of w n → ⊥
none_there w n less is = no_tree w.files n less (sym (is ∙ tree_of_file w n less))
  where
    no_tree : (trees : List Syntax) (n : ℕ) → n < length trees → slice_get trees n ≡ None → ⊥
    no_tree [] n less none = absurd (omega arith)
    no_tree (tree ∷ trees) n less none = none-some _ (sym none ∙ slice_get-get_or (tree ∷ trees) n tree less)

-- a tree that is there has one of their numbers
pub tree_within : (w : Workspace) (t : ℕ) (s : Syntax) → Some s ≡ tree_of w t → t < length w.files + length w.expansions
tree_within w t s is =
    let at = mapped (λ (p : PlacedTree). p.syntax) (with_number (trees w) t) s (sym is) in
    omega (arith, placed_within (trees w) t at.0 at.1, length-trees w)
