-- Laws of the trees of a workspace: which they are by their numbers, and that they stay as they are while further ones come.
use Rattle.std.proofs.Common.{◌≡◌, ◌≢◌, ℕ, zero, suc, ◌+◌, ◌-◌, ◌<◌, ◌≤◌, ◌==◌, true, List, [], ◌∷◌, ◌++◌, length, map, reverse, slice_get, Option, Some, None, Bor, refl, sym, ap, ◌∙◌, inl, inr, arith, eq-eqb, ne_eqb, eqb-true}
use Rattle.std.proofs.lemmas.Bool.{cases_lt, cases_eq, and_parts, and_from}
use Rattle.std.proofs.lemmas.Grind.{reverse_onto}
use Rattle.std.proofs.lemmas.List.{reverse-append, reverse-reverse, length-reverse, length-append, length-map, map-append, append_assoc}
use Rattle.std.proofs.lemmas.Option.{slice_get_past, slice_get-map, slice_get-get_or, none-some, same_Some}
use Rattle.std.specs.BTreeMap.{is_at}
use Rattle.std.specs.Cmp.{unsigned_ties, both_tied}
use Rattle.std.specs.Slice.{IsItemAt}
use Rattle.std.specs.Option.{option_copied, option_map, option_and_then, option_map_or}
use Rattle.ssr_syntax_kinds.specs.declared.reach.Reach.{Reach}
use Rattle.ssr_syntax_tree.specs.Syntax.{Syntax}
use Rattle.ssr_base_trees.specs.declared.ids.NodeId.{NodeId}
use Rattle.ssr_base_trees.specs.contracts.ids.NodeIdOrd.TheImpl as id_order
use Rattle.ssr_base_trees.specs.Workspace.{Expanded, Workspace, PlacedTree, of_file, of_expansion, trees, with_number, tree_of, file_of, nesting, node_id, same_id}

-- ** Elements of lists by their numbers.

pub slice_get-append_left : {A : Type 0} (xs ys : List A) (i : ℕ) → i < length xs → slice_get (xs ++ ys) i ≡ slice_get xs i
slice_get-append_left [] ys i h = absurd (omega arith)
slice_get-append_left (x ∷ xs) ys zero h = refl
slice_get-append_left (x ∷ xs) ys (suc i) h = slice_get-append_left xs ys i (omega arith)

pub slice_get-append_right : {A : Type 0} (xs ys : List A) (i : ℕ) → slice_get (xs ++ ys) (length xs + i) ≡ slice_get ys i
slice_get-append_right [] ys i = ap (slice_get ys) (omega arith)
slice_get-append_right (x ∷ xs) ys i =
    let next : length (x ∷ xs) + i ≡ suc (length xs + i) = omega arith in
    ap (slice_get (x ∷ (xs ++ ys))) next ∙ slice_get-append_right xs ys i

pub slice_get_push : {A : Type 0} (xs : List A) (x : A) → slice_get (xs ++ x ∷ []) (length xs) ≡ Some x
slice_get_push [] x = refl
slice_get_push (y ∷ xs) x =
    let next : length (y ∷ xs) ≡ suc (length xs) = omega arith in
    ap (slice_get (y ∷ (xs ++ x ∷ []))) next ∙ slice_get_push xs x

-- ** Which trees there are.

pub placed_first : (p : PlacedTree) (earlier : List PlacedTree) (t : ℕ) → t ≡ length earlier → with_number (p ∷ earlier) t ≡ Some p
placed_first p earlier t e = rw (eq-eqb t (length earlier) e) refl

pub placed_earlier : (p : PlacedTree) (earlier : List PlacedTree) (t : ℕ) → t ≢ length earlier → with_number (p ∷ earlier) t ≡ with_number earlier t
placed_earlier p earlier t e = rw (ne_eqb t (length earlier) e) refl

placed-reverse : (ts : List PlacedTree) (t : ℕ) → with_number ts t ≡ slice_get (reverse ts) t
placed-reverse [] t = refl
placed-reverse (p ∷ earlier) t =
    let onto : reverse (p ∷ earlier) ≡ reverse earlier ++ p ∷ [] = reverse_onto earlier p [] in
    let counted : length (reverse earlier) ≡ length earlier = length-reverse earlier in
    elim (cases_lt t (length earlier)) [
      | inl before ↦
          placed_earlier p earlier t (λ e. omega arith)
          ∙ placed-reverse earlier t
          ∙ sym (slice_get-append_left (reverse earlier) (p ∷ []) t (omega arith))
          ∙ ap (λ ts. slice_get ts t) (sym onto)
      | inr behind ↦
          elim (cases_lt (length earlier) t) [
            | inl past ↦
                placed_earlier p earlier t (λ e. omega arith)
                ∙ placed-reverse earlier t
                ∙ slice_get_past (reverse earlier) t (omega arith)
                ∙ sym (slice_get_past (reverse earlier ++ p ∷ []) t (omega (arith, length-append (reverse earlier) (p ∷ []))))
                ∙ ap (λ ts. slice_get ts t) (sym onto)
            | inr here ↦
                let same : t ≡ length (reverse earlier) = omega arith in
                placed_first p earlier t (omega arith)
                ∙ sym (slice_get_push (reverse earlier) p)
                ∙ ap (slice_get (reverse earlier ++ p ∷ [])) (sym same)
                ∙ ap (λ ts. slice_get ts t) (sym onto)
          ]
    ]

placed_in_order : (w : Workspace) (t : ℕ) → with_number (trees w) t ≡ slice_get (map of_file w.files ++ map of_expansion w.expansions) t
unfolding trees
placed_in_order w t =
    placed-reverse (trees w) t ∙ ap (λ ts. slice_get ts t) (reverse-reverse (map of_file w.files ++ map of_expansion w.expansions))

pub length-trees : (w : Workspace) → length (trees w) ≡ length w.files + length w.expansions
unfolding trees
length-trees w =
    length-reverse (map of_file w.files ++ map of_expansion w.expansions)
    ∙ length-append (map of_file w.files) (map of_expansion w.expansions)
    ∙ ap (λ n. n + length (map of_expansion w.expansions)) (length-map w.files of_file)
    ∙ ap (λ n. length w.files + n) (length-map w.expansions of_expansion)

-- the tree of a file
pub placed-file : (w : Workspace) (t : ℕ) → t < length w.files → with_number (trees w) t ≡ option_map of_file (slice_get w.files t)
placed-file w t h =
    placed_in_order w t
    ∙ slice_get-append_left (map of_file w.files) (map of_expansion w.expansions) t (omega (arith, length-map w.files of_file))
    ∙ slice_get-map of_file w.files t

-- the tree of an expansion
pub placed-expansion : (w : Workspace) (t : ℕ) → length w.files ≤ t → with_number (trees w) t ≡ option_map of_expansion (slice_get w.expansions (t - length w.files))
placed-expansion w t h =
    let place : t ≡ length (map of_file w.files) + (t - length w.files) = omega (arith, length-map w.files of_file) in
    placed_in_order w t
    ∙ ap (slice_get (map of_file w.files ++ map of_expansion w.expansions)) place
    ∙ slice_get-append_right (map of_file w.files) (map of_expansion w.expansions) (t - length w.files)
    ∙ slice_get-map of_expansion w.expansions (t - length w.files)

-- ** Further trees.

pub trees_more : (reach : Reach) (files : List Syntax) (expansions : List Expanded) (e : Expanded)
    → trees (record { reach = reach; files = files; expansions = expansions ++ e ∷ [] })
    ≡ of_expansion e ∷ trees (record { reach = reach; files = files; expansions = expansions })
unfolding trees
trees_more reach files expansions e =
    let front = map of_file files ++ map of_expansion expansions in
    ap (λ ts. reverse (map of_file files ++ ts)) (map-append of_expansion expansions (e ∷ []))
    ∙ ap reverse (sym (append_assoc (map of_file files) (map of_expansion expansions) (of_expansion e ∷ [])))
    ∙ reverse-append front (of_expansion e ∷ [])

-- the file at the top, and the nesting, of a tree that was there before
pub file_of-earlier : (p : PlacedTree) (earlier : List PlacedTree) (t : ℕ) → t < length earlier → file_of (p ∷ earlier) t ≡ file_of earlier t
file_of-earlier p earlier t h = rw (ne_eqb t (length earlier) (λ e. omega arith)) refl

pub nesting-earlier : (p : PlacedTree) (earlier : List PlacedTree) (t : ℕ) → t < length earlier → nesting (p ∷ earlier) t ≡ nesting earlier t
nesting-earlier p earlier t h = rw (ne_eqb t (length earlier) (λ e. omega arith)) refl

-- ** Trees, files at the top and nestings by their numbers.

pub tree_of_file : (w : Workspace) (t : ℕ) → t < length w.files → tree_of w t ≡ slice_get w.files t
tree_of_file w t h = ap (option_map (λ p. p.syntax)) (placed-file w t h) ∙ of_file_again (slice_get w.files t)
  where
    of_file_again : (o : Option Syntax) → option_map (λ (p : PlacedTree). p.syntax) (option_map of_file o) ≡ o
    of_file_again None = refl
    of_file_again (Some syntax) = refl

-- what is known of a tree that is no file's
pub placed_at : (w : Workspace) (t : ℕ) (e : Expanded) → length w.files ≤ t → slice_get w.expansions (t - length w.files) ≡ Some e → with_number (trees w) t ≡ Some (of_expansion e)
placed_at w t e h is = placed-expansion w t h ∙ ap (option_map of_expansion) is

pub placed_past : (w : Workspace) (t : ℕ) → length w.files + length w.expansions ≤ t → with_number (trees w) t ≡ None
placed_past w t h =
    placed-expansion w t (omega arith) ∙ ap (option_map of_expansion) (slice_get_past w.expansions (t - length w.files) (omega arith))

-- a tree without a call is its own file
pub file_of_top : (ts : List PlacedTree) (t : ℕ) → ((p : PlacedTree) → with_number ts t ≡ Some p → p.call ≡ None) → file_of ts t ≡ t
file_of_top [] t top = refl
file_of_top (p ∷ earlier) t top =
    elim (cases_eq t (length earlier)) [
      | inl here ↦
          rw (eq-eqb t (length earlier) here) (ap (λ call. option_map_or (λ c. file_of earlier c.tree) call t) (top p (placed_first p earlier t here)))
      | inr other ↦
          rw (ne_eqb t (length earlier) other) (file_of_top earlier t (λ q is. top q (placed_earlier p earlier t other ∙ is)))
    ]

pub nesting_top : (ts : List PlacedTree) (t : ℕ) → ((p : PlacedTree) → with_number ts t ≡ Some p → p.call ≡ None) → nesting ts t ≡ 0
nesting_top [] t top = refl
nesting_top (p ∷ earlier) t top =
    elim (cases_eq t (length earlier)) [
      | inl here ↦
          rw (eq-eqb t (length earlier) here) (ap (λ call. option_map_or (λ c. 1 + nesting earlier c.tree) call 0) (top p (placed_first p earlier t here)))
      | inr other ↦
          rw (ne_eqb t (length earlier) other) (nesting_top earlier t (λ q is. top q (placed_earlier p earlier t other ∙ is)))
    ]

-- a number that is no expansion's
call_of_file : (w : Workspace) (t : ℕ) → (length w.files ≤ t → length w.files + length w.expansions ≤ t) → (p : PlacedTree) → with_number (trees w) t ≡ Some p → p.call ≡ None
call_of_file w t free p is =
    elim (cases_lt t (length w.files)) [
      | inl file ↦ at_file (slice_get w.files t) p (sym (placed-file w t file) ∙ is)
      | inr behind ↦ absurd (none-some p (sym (placed_past w t (free behind)) ∙ is))
    ]
  where
    at_file : (o : Option Syntax) (p : PlacedTree) → option_map of_file o ≡ Some p → p.call ≡ None
    at_file None p e = cc
    at_file (Some syntax) p e = ap (λ p. p.call) (sym (same_Some _ _ e))

pub file_of_file : (w : Workspace) (t : ℕ) → (length w.files ≤ t → length w.files + length w.expansions ≤ t) → file_of (trees w) t ≡ t
file_of_file w t free = file_of_top (trees w) t (call_of_file w t free)

pub nesting_of_file : (w : Workspace) (t : ℕ) → (length w.files ≤ t → length w.files + length w.expansions ≤ t) → nesting (trees w) t ≡ 0
nesting_of_file w t free = nesting_top (trees w) t (call_of_file w t free)

pub no_call : (w : Workspace) (t : ℕ) → (length w.files ≤ t → length w.files + length w.expansions ≤ t) → option_and_then (λ p. p.call) (with_number (trees w) t) ≡ None
no_call w t free = none_called (with_number (trees w) t) (call_of_file w t free)
  where
    none_called : (o : Option PlacedTree) → ((p : PlacedTree) → o ≡ Some p → p.call ≡ None) → option_and_then (λ p. p.call) o ≡ None
    none_called None known = refl
    none_called (Some p) known = known p refl

pub tree_of_past : (w : Workspace) (t : ℕ) → length w.files + length w.expansions ≤ t → tree_of w t ≡ None
tree_of_past w t h = ap (option_map (λ p. p.syntax)) (placed_past w t h)

-- what a look at a place of a list shows
pub got : {A : Type 0} (xs ys : List A) (i : ℕ) (r : Option (Bor A)) → ys ≡ xs → IsItemAt ys i r → option_copied r ≡ slice_get xs i
got xs ys i None e at = sym (slice_get_past xs i (omega (arith, at.3, ap length e)))
got xs ys i (Some x) e at =
    ap Some (at.3.1 x.now) ∙ sym (slice_get-get_or ys i x.now at.3.0) ∙ ap (λ l. slice_get l i) e

-- ** Nodes by their ids.

pub same_nodes : (a b : NodeId) → same_id a b ≡ true → a ≡ b
same_nodes a b is =
    let parts = and_parts (a.tree == b.tree) (a.node.0 == b.node.0) is in
    ap (λ t. node_id t a.node.0) (eqb-true a.tree b.tree parts.0) ∙ ap (node_id b.tree) (eqb-true a.node.0 b.node.0 parts.1)

pub same_id-itself : (a : NodeId) → same_id a a ≡ true
same_id-itself a = and_from (a.tree == a.tree) (a.node.0 == a.node.0) (eq-eqb a.tree a.tree refl) (eq-eqb a.node.0 a.node.0 refl)

-- nodes that their order doesn't tell apart are the same
pub id_ties : (a b : NodeId) → same_id a b ≡ is_at ((id_order.ghosts).cmp a) b
id_ties a b = both_tied _ _ _ _ (unsigned_ties a.tree b.tree) (unsigned_ties a.node.0 b.node.0)
