-- What is computed of a token tree is the step from what is computed of smaller ones.
use Rattle.std.proofs.Common.{◌≡◌, ℕ, zero, suc, ◌+◌, ◌≤◌, Bool, true, false, not, cond, List, [], ◌∷◌, All, Option, Some, None, refl, ◌∙◌, ap, arith}
use Rattle.std.proofs.lemmas.List.Elements.{All-nil, All-cons, All-head, All-tail, All-weaker, All-filter}
use Rattle.ssr_syntax_tree.specs.Syntax.{Token, Forest, nothing, leaf, branch, token_count, node_count, same_token}
use Rattle.ssr_syntax_tree.specs.Places.{Node, Part, token_part, node_part, parts_in, parts_of, size_of}
use Rattle.ide_ssr_bindings.specs.declared.bindings.Binding.{Binding}
use Rattle.ide_ssr_token_trees.specs.Bindings.{joined, passed, holding, leaf_by, token_by, tree_by, elements_by, trees_by, bounded_by, tree_bindings}
use Rattle.ide_ssr_token_trees.specs.Elements.{is_trivia_part, without_trivia, last_comma, next_text, from, run_over}

abbrev pub Behind : Type 0
Behind = List Part → Option (List Binding)

abbrev pub HasAtMost : ℕ → Part → Type 0
HasAtMost n (token_part t token) = Unit {0}
HasAtMost n (node_part node) = size_of node ≤ n

parts_small : (n parent m t : ℕ) (forest : Forest) → node_count forest ≤ n → All (HasAtMost n) (parts_in parent m t forest)
parts_small n parent m t nothing few = All-nil (HasAtMost n)
parts_small n parent m t (leaf token next) few = All-cons (HasAtMost n) _ _ tt (parts_small n parent m (1 + t) next few)
parts_small n parent m t (branch kind below next) few =
    All-cons (HasAtMost n) _ _ (omega arith) (parts_small n parent (1 + m + node_count below) (t + token_count below) next (omega arith))

pub elements_small : (n : ℕ) (p : Node) → node_count p.children ≤ n → All (HasAtMost n) (without_trivia (parts_of p))
elements_small n p few =
    All-filter (λ part. not (is_trivia_part part)) (HasAtMost n) (parts_of p) (parts_small n p.number (1 + p.number) p.first p.children few)

-- ** Where trees are known to match alike.

module _ (f g : Node → Node → Option (List Binding)) where
  abbrev AreAlike : Part → Type 0
  AreAlike (token_part t token) = Unit {0}
  AreAlike (node_part p) = (c : Node) → f p c ≡ g p c

  leaf_alike : (c_comma o : Option ℕ) (comma : Bool) (token : Token) (text : Option (List ℕ)) (h k : Behind) → ((cs : List Part) → h cs ≡ k cs) → (cs : List Part)
      → leaf_by c_comma o comma token text h cs ≡ leaf_by c_comma o comma token text k cs
  leaf_alike c_comma (Some i) comma token text h k same [] = refl
  leaf_alike c_comma (Some i) comma token text h k same (c ∷ cs) = ap (joined (holding i (run_over c _))) (same (from text cs))
  leaf_alike c_comma None true token text h k same cs = same (passed c_comma cs)
  leaf_alike c_comma None false token text h k same cs = by (passed c_comma cs) where
    by : (ds : List Part) → token_by token h ds ≡ token_by token k ds
    by [] = refl
    by (token_part u d ∷ ds) = ap (λ o. cond (same_token token d) o None) (same ds)
    by (node_part d ∷ ds) = refl

  tree_alike : (p : Node) (h k : Behind) → ((c : Node) → f p c ≡ g p c) → ((cs : List Part) → h cs ≡ k cs) → (ds : List Part)
      → tree_by (f p) h ds ≡ tree_by (g p) k ds
  tree_alike p h k here same [] = refl
  tree_alike p h k here same (token_part u d ∷ ds) = refl
  tree_alike p h k here same (node_part d ∷ ds) = ap (λ o. joined o (h ds)) (here d) ∙ ap (joined (g p d)) (same ds)

  elements_alike : (at : ℕ → Option ℕ) (x y : Option ℕ) (ps : List Part) → All AreAlike ps → (cs : List Part)
      → elements_by at f x y ps cs ≡ elements_by at g x y ps cs
  elements_alike at x y [] all cs = refl
  elements_alike at x y (token_part t token ∷ ps) all cs =
      leaf_alike y (at t) _ token (next_text ps) (elements_by at f x y ps) (elements_by at g x y ps)
      (elements_alike at x y ps (All-tail AreAlike (token_part t token) ps all)) cs
  elements_alike at x y (node_part p ∷ ps) all cs =
      tree_alike p (elements_by at f x y ps) (elements_by at g x y ps) (All-head AreAlike (node_part p) ps all)
      (elements_alike at x y ps (All-tail AreAlike (node_part p) ps all)) (passed y cs)

  trees_alike : (at : ℕ → Option ℕ) (n : ℕ) (p c : Node) → node_count p.children ≤ n → ((q d : Node) → size_of q ≤ n → f q d ≡ g q d)
      → trees_by at f p c ≡ trees_by at g p c
  trees_alike at n p c few same =
      elements_alike at (last_comma (parts_of p)) (last_comma (parts_of c)) (without_trivia (parts_of p))
      (All-weaker (HasAtMost n) AreAlike each (without_trivia (parts_of p)) (elements_small n p few)) (parts_of c)
    where
      each : (part : Part) → HasAtMost n part → AreAlike part
      each (token_part t token) small = tt
      each (node_part q) small = λ d. same q d small

module _ (at : ℕ → Option ℕ) where
  bounded_alike : (n m : ℕ) (p c : Node) → size_of p ≤ n → size_of p ≤ m → bounded_by at n p c ≡ bounded_by at m p c
  bounded_alike zero m p c low high = absurd (omega arith)
  bounded_alike (suc n) zero p c low high = absurd (omega arith)
  bounded_alike (suc n) (suc m) p c low high =
      trees_alike (bounded_by at n) (bounded_by at m) at (node_count p.children) p c (omega arith)
      (λ q d small. bounded_alike n m q d (omega arith) (omega arith))

  pub tree_step : (p c : Node) → tree_bindings at p c ≡ trees_by at (tree_bindings at) p c
  unfolding tree_bindings
  tree_step p c =
      let below = node_count p.children in
      let size : 1 + below ≡ suc below = omega arith in
      ap (λ n. bounded_by at n p c) size
      ∙ trees_alike (bounded_by at below) (λ p c. bounded_by at (size_of p) p c) at below p c (omega arith)
      (λ q d small. bounded_alike below (size_of q) q d small (omega arith))
