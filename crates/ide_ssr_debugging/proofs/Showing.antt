-- The nodes that a snippet shows, as they are found.
use Rattle.std.proofs.Common.{◌≡◌, ℕ, ◌+◌, ◌<◌, ◌≤◌, ◌≢◌, ◌⊎◌, ◌↔◌, inl, inr, Bool, List, [], ◌∷◌, ◌++◌, length, get_or, All, AllPairs, Contains, Option, Some, None, refl, sym, ap, ◌∙◌, subst, arith}
use Rattle.std.specs.Prelude.{IsTrue, slice_get}
use Rattle.std.specs.Option.{IsSomeAnd, option_map, option_and_then}
use Rattle.std.proofs.lemmas.Bool.{cases_lt}
use Rattle.std.proofs.lemmas.List.Elements.{All-weaker, All-contains_itself, Contains-append_left, Contains-push, Contains-push_cases}
use Rattle.std.proofs.lemmas.List.Quantifiers.{all_pairs_push}
use Rattle.std.proofs.lemmas.Option.{none-some, same_Some}
use Rattle.ssr_syntax_tree.specs.Syntax.{Syntax, node_count, source_of}
use Rattle.ssr_syntax_tree.specs.Places.{HasNode}
use Rattle.ssr_syntax_tree.proofs.Lists.{pairs_none}
use Rattle.ssr_base_trees.specs.declared.ids.FileId.{FileId}
use Rattle.ssr_base_trees.specs.declared.ids.FileRange.{FileRange}
use Rattle.ssr_base_trees.specs.declared.ids.NodeId.{NodeId}
use Rattle.ssr_base_trees.specs.Origins.{Span}
use Rattle.ssr_base_trees.specs.Texts.{text_between}
use Rattle.ssr_base_trees.specs.Workspace.{Workspace, PlacedTree, FileSpan, trees, with_number, tree_of, file_of, text_of, node_id, original, original_range, file_span_of}
use Rattle.ssr_base_trees.specs.Built.{IsNodeOf}
use Rattle.ssr_base_trees.specs.Laws.{IsEarlier}
use Rattle.ssr_base_trees.proofs.Shared.{some_and, mapped, placed_within, placed_there}
use Rattle.ide_ssr_bindings.proofs.Shared.{has_node}
use Rattle.ide_ssr_debugging.specs.Debugging.{IsShown}
use Rattle.ide_ssr_debugging.specs.Private.Shown.{AreShownBefore}

-- ** Whether a node is shown.

-- the text of these bytes
abbrev text_at : Workspace → FileSpan → Option (List ℕ)
text_at w range = option_and_then (λ tree. text_between range.span.start range.span.end (source_of tree)) (slice_get w.files range.file)

one_file : (a b : FileId) → a.0 ≡ b.0 → a ≡ b
one_file a b same = let of : ℕ → FileId = λ n. record { 0 = n } in ap of same

module _ (w : Workspace) (file : FileId) (snippet : List ℕ) (x : NodeId) where
  pub shown_told : (range : FileRange) (text : List ℕ) (r : Bool) → 0 < length snippet → IsNodeOf (trees w) x → 0 < x.node.0
      → Some (file_span_of range) ≡ original_range (trees w) x → range.file_id.0 ≡ file.0 → Some text ≡ text_of w range → IsTrue r ↔ (text ≡ snippet)
      → IsTrue r ↔ IsShown w file snippet x
  shown_told range text r has_byte node no_root stands in_file is_text told = (
    (λ is. record {
      has_byte = has_byte;
      node = node;
      no_root = no_root;
      range = range;
      stands = sym stands;
      in_file = one_file range.file_id file in_file;
      is_text = sym is_text ∙ ap Some (told.0 is);
    }),
    (λ shown.
        let same = same_Some (file_span_of shown.range) (file_span_of range) (sym shown.stands ∙ sym stands) in
        let texts : text_of w shown.range ≡ text_of w range = ap (text_at w) same in
        told.1 (same_Some text snippet (is_text ∙ sym texts ∙ shown.is_text))),
  )

  -- what is shown lies in the file
  pub shown_in_file : IsShown w file snippet x → file_of (trees w) x.tree ≡ file.0
  shown_in_file shown =
      let had = mapped (λ (span : Span). let s : FileSpan = record { file = file_of (trees w) x.tree; span = span } in s) (original (trees w) x) (file_span_of shown.range) shown.stands in
      ap (λ (s : FileSpan). s.file) had.2 ∙ ap (λ (f : FileId). f.0) shown.in_file

-- ** What is found.

id_at : (t n : ℕ) (x : NodeId) → x.tree ≡ t → x.node.0 ≡ n → x ≡ node_id t n
id_at t n x tree node = ap (λ t. node_id t x.node.0) tree ∙ ap (node_id t) node

module _ (w : Workspace) (file : FileId) (snippet : List ℕ) where
  -- what is found stays while no further node is passed that is shown
  passed : (t n u m : ℕ) (xs : List NodeId) → AreShownBefore w file snippet t n xs → ((x : NodeId) → IsEarlier x (node_id t n) → IsEarlier x (node_id u m))
      → ((x : NodeId) → IsShown w file snippet x → IsEarlier x (node_id u m) → IsEarlier x (node_id t n)) → AreShownBefore w file snippet u m xs
  passed t n u m xs so_far on back = record {
    once = so_far.once;
    are = λ x. (
      (λ at. let known = (so_far.are x).0 at in (known.0, on x known.1)),
      (λ is. (so_far.are x).1 (is.0, back x is.0 is.1)),
    );
  }

  pub shown_none : AreShownBefore w file snippet 0 0 []
  shown_none = record {
    once = pairs_none (λ a b. a ≢ b);
    are = λ x. (
      (λ at. absurd (let within = at.1 in omega arith)),
      (λ is. absurd (elim is.1 [ inl tree ↦ omega arith | inr same ↦ let less = same.1 in omega arith ])),
    );
  }

  -- a root is not shown
  pub shown_root : (t : ℕ) (xs : List NodeId) → AreShownBefore w file snippet t 0 xs → AreShownBefore w file snippet t 1 xs
  shown_root t xs so_far =
      passed t 0 t 1 xs so_far (λ x before. elim before [ inl tree ↦ inl tree | inr same ↦ inr (same.0, let less = same.1 in omega arith) ])
      (λ x shown before. elim before [
        | inl tree ↦ inl tree
        | inr same ↦ absurd (let less = same.1 in let inner = shown.no_root in omega arith)
      ])

  earlier_more : (t n : ℕ) (x : NodeId) → IsEarlier x (node_id t n) → IsEarlier x (node_id t (n + 1))
  earlier_more t n x (inl tree) = inl tree
  earlier_more t n x (inr same) = inr (same.0, let less = same.1 in omega arith)

  -- a node before the next one comes before this one, or is this one
  more_cases : (t n : ℕ) (x : NodeId) → IsEarlier x (node_id t (n + 1)) → IsEarlier x (node_id t n) ⊎ (x ≡ node_id t n)
  more_cases t n x (inl tree) = inl (inl tree)
  more_cases t n x (inr same) =
      elim (cases_lt x.node.0 n) [
        | inl low ↦ inl (inr (same.0, low))
        | inr high ↦ inr (id_at t n x same.0 (let less = same.1 in omega arith))
      ]

  not_itself : (t n : ℕ) (x : NodeId) → IsEarlier x (node_id t n) → x ≢ node_id t n
  not_itself t n x (inl tree) same = let e = ap (λ (x : NodeId). x.tree) same in omega arith
  not_itself t n x (inr less) same = let e = ap (λ (x : NodeId). x.node.0) same in let low = less.1 in omega arith

  pub shown_more : (t n : ℕ) (xs : List NodeId) → AreShownBefore w file snippet t n xs → IsShown w file snippet (node_id t n)
      → AreShownBefore w file snippet t (n + 1) (xs ++ node_id t n ∷ [])
  shown_more t n xs so_far shown = record {
    once = all_pairs_push (λ a b. a ≢ b) xs (node_id t n) so_far.once
        (λ k d low. not_itself t n (get_or xs k d) ((so_far.are (get_or xs k d)).0 (All-contains_itself xs k d low)).1);
    are = λ x. (
      (λ at. elim (Contains-push_cases xs (node_id t n) x at) [
        | inl earlier ↦ (let known = (so_far.are x).0 earlier in (known.0, earlier_more t n x known.1))
        | inr here ↦
            subst (λ x. IsShown w file snippet x × IsEarlier x (node_id t (n + 1))) here (shown, inr (refl, omega arith))
      ]),
      (λ is. elim (more_cases t n x is.1) [
        | inl before ↦ Contains-append_left xs (node_id t n ∷ []) x ((so_far.are x).1 (is.0, before))
        | inr here ↦ subst (Contains (xs ++ node_id t n ∷ [])) (sym here) (Contains-push xs (node_id t n))
      ]),
    );
  }

  pub shown_not : (t n : ℕ) (xs : List NodeId) → AreShownBefore w file snippet t n xs → (IsShown w file snippet (node_id t n) → ⊥)
      → AreShownBefore w file snippet t (n + 1) xs
  shown_not t n xs so_far not_shown =
      passed t n t (n + 1) xs so_far (earlier_more t n)
      (λ x shown before. elim (more_cases t n x before) [
        | inl earlier ↦ earlier
        | inr here ↦ absurd (not_shown (subst (IsShown w file snippet) here shown))
      ])

  to_next_tree : (t n : ℕ) (x : NodeId) → IsEarlier x (node_id t n) → IsEarlier x (node_id (t + 1) 0)
  to_next_tree t n x (inl tree) = inl (omega arith)
  to_next_tree t n x (inr same) = let e = same.0 in inl (omega arith)

  tree_cases : (t : ℕ) (x : NodeId) → IsEarlier x (node_id (t + 1) 0) → (x.tree < t) ⊎ (x.tree ≡ t)
  tree_cases t x (inl tree) = elim (cases_lt x.tree t) [ inl low ↦ inl low | inr high ↦ inr (omega arith) ]
  tree_cases t x (inr none) = absurd (let less = none.1 in omega arith)

  -- all nodes of a tree are passed
  pub shown_tree : (t n : ℕ) (s : Syntax) (xs : List NodeId) → tree_of w t ≡ Some s → 1 + node_count s.children ≤ n → AreShownBefore w file snippet t n xs
      → AreShownBefore w file snippet (t + 1) 0 xs
  shown_tree t n s xs at all so_far =
      passed t n (t + 1) 0 xs so_far (to_next_tree t n)
      (λ x shown before. elim (tree_cases t x before) [
        | inl low ↦ inl low
        | inr here ↦ inr (here, let has : HasNode s x.node.0 = has_node w x s (ap (tree_of w) here ∙ at) shown.node in omega arith)
      ])

  -- a tree of another file has no node that is shown
  pub shown_elsewhere : (t : ℕ) (xs : List NodeId) → file_of (trees w) t ≢ file.0 → AreShownBefore w file snippet t 0 xs → AreShownBefore w file snippet (t + 1) 0 xs
  shown_elsewhere t xs other so_far =
      passed t 0 (t + 1) 0 xs so_far (to_next_tree t 0)
      (λ x shown before. elim (tree_cases t x before) [
        | inl low ↦ inl low
        | inr here ↦ absurd (other (sym (ap (file_of (trees w)) here) ∙ shown_in_file w file snippet x shown))
      ])

  -- all trees are passed
  pub shown_all : (t : ℕ) (xs : List NodeId) → None ≡ tree_of w t → AreShownBefore w file snippet t 0 xs → (x : NodeId) → Contains xs x ↔ IsShown w file snippet x
  shown_all t xs none so_far x = (
    (λ at. ((so_far.are x).0 at).0),
    (λ shown. (so_far.are x).1 (
      shown,
      inl
          (let node = some_and (with_number (trees w) x.tree) (λ p. HasNode p.syntax x.node.0) shown.node in
          let within = placed_within (trees w) x.tree node.0 node.1 in
          elim (cases_lt t (length (trees w))) [
            | inl low ↦
                let there = placed_there (trees w) t low in
                absurd (none-some there.0.syntax (none ∙ ap (option_map (λ (p : PlacedTree). p.syntax)) there.1))
            | inr high ↦ omega arith
          ]),
    )),
  )

-- what is shown are nodes
pub shown_nodes : (w : Workspace) (file : FileId) (snippet : List ℕ) (xs : List NodeId) → ((x : NodeId) → Contains xs x ↔ IsShown w file snippet x) → All (IsNodeOf (trees w)) xs
shown_nodes w file snippet xs are =
    All-weaker (Contains xs) (IsNodeOf (trees w)) (λ x at. ((are x).0 at).node) xs (All-contains_itself xs)

-- an empty snippet shows none
pub shown_by_none : (w : Workspace) (file : FileId) (snippet : List ℕ) → length snippet ≡ 0 → (x : NodeId) → Contains [] x ↔ IsShown w file snippet x
shown_by_none w file snippet none x = (
  (λ at. absurd (let within = at.1 in omega arith)),
  (λ shown. absurd (let some = shown.has_byte in omega arith)),
)
