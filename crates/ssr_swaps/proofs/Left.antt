-- What is left of a tree with other trees in the places of nodes.
use Rattle.std.proofs.Common.{◌≡◌, ◌∙◌, ℕ, suc, ◌+◌, ◌-◌, ◌<◌, ◌≤◌, List, [], ◌∷◌, ◌++◌, length, drop, refl, ap, sym, append_assoc, arith}
use Rattle.std.specs.Prelude.{Bool, if◌then◌else◌, Option, Some, None}
use Rattle.std.specs.Option.{option_map_or}
use Rattle.std.proofs.lemmas.List.{append-nil, drop_all}
use Rattle.ssr_syntax_kinds.specs.declared.kinds.SyntaxKind.{SyntaxKind}
use Rattle.ssr_syntax_kinds.specs.Kinds.{is_trivia}
use Rattle.ssr_syntax_tree.specs.Syntax.{Token, Forest, nothing, leaf, branch, Syntax, node_count, token_count}
use Rattle.ssr_syntax_tree.specs.Places.{Node, HasNode, node_of, nodes_in, nodes_of, root_of}
use Rattle.ssr_syntax_tree.proofs.Shared.{length-nodes_in, length-nodes_of, node_is, node_left, node_of-number}
use Rattle.ssr_swaps.proofs.NodeMarks.{parts_marks}
use Rattle.ssr_swaps.specs.Private.Marks.{PlainMark, node_mark, token_mark, child_mark, siblings, below, marks_of, node_marks}
use Rattle.ssr_swaps.specs.Private.Swapping.{left, Goes}
use Rattle.ssr_swaps.specs.Swapped.{swapped}

module _ (at : ℕ → Option Syntax) where
  -- nodes that are passed
  passed : (front rest : List Node) → left at (length front) (front ++ rest) ≡ left at 0 rest
  passed [] rest = refl
  passed (node ∷ front) rest = passed front rest

  pub passed_by : (skipped : ℕ) (front rest : List Node) → length front ≡ skipped → left at skipped (front ++ rest) ≡ left at 0 rest
  passed_by skipped front rest same = ap (λ n. left at n (front ++ rest)) (sym same) ∙ passed front rest

  one_stays : (found : Option Syntax) (kind : SyntaxKind) (inner next : Forest) (marks : List PlainMark) → siblings next ≡ marks
      → siblings (option_map_or (λ (tree : Syntax). branch tree.kind tree.children next) found (branch kind inner next)) ≡ child_mark ∷ marks
  one_stays None kind inner next marks same = ap (λ ms. child_mark ∷ ms) same
  one_stays (Some tree) kind inner next marks same = ap (λ ms. child_mark ∷ ms) same

  leaf_stays : (token : Token) (one other : List PlainMark) (trivia : Bool) → one ≡ other
      → (if trivia then one else token_mark token ∷ one) ≡ (if trivia then other else token_mark token ∷ other)
  leaf_stays token one other trivia same = ap (λ ms. if trivia then ms else token_mark token ∷ ms) same

  -- siblings stay siblings
  siblings_stay : (m : ℕ) (forest : Forest) → siblings (swapped at m forest) ≡ siblings forest
  siblings_stay m nothing = refl
  siblings_stay m (leaf token next) = leaf_stays token (siblings (swapped at m next)) (siblings next) (is_trivia token.kind) (siblings_stay m next)
  siblings_stay m (branch kind children next) =
      one_stays (at m) kind (swapped at (1 + m) children) (swapped at (1 + m + node_count children) next) (siblings next)
      (siblings_stay (1 + m + node_count children) next)

  one_left : (found : Option Syntax) (kind : SyntaxKind) (inner next : Forest) (skipped gone behind : List PlainMark)
      → skipped ≡ below next ++ behind → gone ≡ (node_mark kind ∷ (siblings inner ++ (below inner ++ below next))) ++ behind
      → option_map_or (λ (tree : Syntax). marks_of tree ++ skipped) found gone
      ≡ below (option_map_or (λ (tree : Syntax). branch tree.kind tree.children next) found (branch kind inner next)) ++ behind
  one_left None kind inner next skipped gone behind e f = f
  one_left (Some tree) kind inner next skipped gone behind e f =
      ap (λ ms. marks_of tree ++ ms) e
      ∙ sym (append_assoc (marks_of tree) (below next) behind)
      ∙ ap (λ ms. (node_mark tree.kind ∷ ms) ++ behind) (append_assoc (siblings tree.children) (below tree.children) (below next))

  -- what is left of siblings and of what is below them is what is below them with the other trees
  pub all_left : (parent m t : ℕ) (forest : Forest) (rest : List Node)
      → left at 0 (nodes_in parent m t forest ++ rest) ≡ below (swapped at m forest) ++ left at 0 rest
  all_left parent m t nothing rest = refl
  all_left parent m t (leaf token next) rest = all_left parent m (1 + t) next rest
  all_left parent m t (branch kind children next) rest =
      let inner = nodes_in m (1 + m) t children in
      let after = nodes_in parent (1 + m + node_count children) (t + token_count children) next in
      let new = swapped at (1 + m) children in
      let newer = swapped at (1 + m + node_count children) next in
      let more = all_left parent (1 + m + node_count children) (t + token_count children) next rest in
      let node : Node = record { number = m; parent = parent; first = t; kind = kind; children = children } in
      one_left (at m) kind new newer (left at (node_count children) ((inner ++ after) ++ rest)) (node_marks node ++ left at 0 ((inner ++ after) ++ rest))
      (left at 0 rest)
      (ap (left at (node_count children)) (append_assoc inner after rest)
      ∙ passed_by (node_count children) inner (after ++ rest) (length-nodes_in m (1 + m) t children) ∙ more)
      (ap (λ ms. (node_mark kind ∷ ms) ++ left at 0 ((inner ++ after) ++ rest)) (parts_marks m (1 + m) t children ∙ sym (siblings_stay (1 + m) children))
      ∙ ap (λ ms. (node_mark kind ∷ siblings new) ++ ms)
      (ap (left at 0) (append_assoc inner after rest) ∙ all_left m (1 + m) t children (after ++ rest) ∙ ap (λ ms. below new ++ ms) more)
      ∙ ap (λ ms. node_mark kind ∷ (siblings new ++ ms)) (sym (append_assoc (below new) (below newer) (left at 0 rest)))
      ∙ ap (λ ms. node_mark kind ∷ ms) (sym (append_assoc (siblings new) (below new ++ below newer) (left at 0 rest))))

  left_here : (tree : Syntax) (n : ℕ) → HasNode tree n
      → left at 0 (drop n (nodes_of tree))
      ≡ option_map_or (λ (there : Syntax). marks_of there ++ left at (node_count (node_of tree n).children) (drop (n + 1) (nodes_of tree)))
      (at n) (node_marks (node_of tree n) ++ left at 0 (drop (n + 1) (nodes_of tree)))
  left_here tree n has =
      ap (left at 0) (node_left tree n has)
      ∙ ap (λ (number : ℕ). option_map_or (λ (there : Syntax). marks_of there ++ left at (node_count (node_of tree n).children) (drop (n + 1) (nodes_of tree)))
      (at number) (node_marks (node_of tree n) ++ left at 0 (drop (n + 1) (nodes_of tree))))
      (node_of-number tree n has)

  -- behind a node in whose place something stands
  pub goes_swapped : (tree there : Syntax) (n last : ℕ) (old new : List PlainMark) → HasNode tree n → at n ≡ Some there
      → last ≡ n + node_count (node_of tree n).children → new ≡ old ++ marks_of there → Goes at (nodes_of tree) n last old new
  goes_swapped tree there n last old new has is ends added =
      let rest = left at (node_count (node_of tree n).children) (drop (n + 1) (nodes_of tree)) in
      let skipped : last - n ≡ node_count (node_of tree n).children = omega arith in
      record {
        further = omega arith;
        marks =
            ap (λ (k : ℕ). new ++ left at k (drop (n + 1) (nodes_of tree))) skipped
            ∙ ap (λ ms. ms ++ rest) added ∙ append_assoc old (marks_of there) rest
            ∙ ap (λ ms. old ++ ms)
            (sym (left_here tree n has
            ∙ ap (λ found. option_map_or (λ (t : Syntax). marks_of t ++ rest) found (node_marks (node_of tree n) ++ left at 0 (drop (n + 1) (nodes_of tree)))) is));
      }

  -- behind a node that stays
  pub goes_kept : (tree : Syntax) (n : ℕ) (old new : List PlainMark) → HasNode tree n → at n ≡ None
      → new ≡ old ++ node_marks (node_of tree n) → Goes at (nodes_of tree) n n old new
  goes_kept tree n old new has is added =
      let rest = left at 0 (drop (n + 1) (nodes_of tree)) in
      let skipped : n - n ≡ 0 = omega arith in
      record {
        further = omega arith;
        marks =
            ap (λ (k : ℕ). new ++ left at k (drop (n + 1) (nodes_of tree))) skipped
            ∙ ap (λ ms. ms ++ rest) added ∙ append_assoc old (node_marks (node_of tree n)) rest
            ∙ ap (λ ms. old ++ ms)
            (sym (left_here tree n has
            ∙ ap (λ found. option_map_or (λ (t : Syntax). marks_of t ++ left at (node_count (node_of tree n).children) (drop (n + 1) (nodes_of tree))) found (node_marks (node_of tree n) ++ rest)) is));
      }

  one_passed : (k j : ℕ) (node : Node) (rest : List Node) → k ≡ suc j → left at k (node ∷ rest) ≡ left at j rest
  one_passed k j node rest e = ap (λ (n : ℕ). left at n (node ∷ rest)) e

  -- a node that lies below one in whose place something stands is passed
  pub passed_here : (tree : Syntax) (n past : ℕ) → HasNode tree n → n < past
      → left at (past - (n + 1)) (drop (n + 1) (nodes_of tree)) ≡ left at (past - n) (drop n (nodes_of tree))
  passed_here tree n past has low =
      let more : past - n ≡ suc (past - (n + 1)) = omega arith in
      sym (ap (left at (past - n)) (node_left tree n has) ∙ one_passed (past - n) (past - (n + 1)) (node_of tree n) (drop (n + 1) (nodes_of tree)) more)

  -- nothing is left behind the last node
  pub none_left : (tree : Syntax) (n k : ℕ) → 1 + node_count tree.children ≤ n → left at k (drop n (nodes_of tree)) ≡ []
  none_left tree n k all = ap (left at k) (drop_all n (nodes_of tree) (omega (arith, length-nodes_of tree)))

  -- the root, and what is left behind it
  pub all_of_it : (tree : Syntax) (old : List PlainMark)
      → (old ++ node_marks (node_of tree 0)) ++ left at 0 (drop 1 (nodes_of tree))
      ≡ old ++ (node_mark tree.kind ∷ (siblings (swapped at 1 tree.children) ++ below (swapped at 1 tree.children)))
  all_of_it tree old =
      let inner = swapped at 1 tree.children in
      let root : node_of tree 0 ≡ root_of tree = node_is tree 0 (omega arith) in
      append_assoc old (node_marks (node_of tree 0)) (left at 0 (nodes_in 0 1 0 tree.children))
      ∙ ap (λ (n : Node). old ++ (node_marks n ++ left at 0 (nodes_in 0 1 0 tree.children))) root
      ∙ ap (λ ms. old ++ ((node_mark tree.kind ∷ ms) ++ left at 0 (nodes_in 0 1 0 tree.children))) (parts_marks 0 1 0 tree.children ∙ sym (siblings_stay 1 tree.children))
      ∙ ap (λ (nodes : List Node). old ++ (node_mark tree.kind ∷ (siblings inner ++ left at 0 nodes))) (sym (append-nil (nodes_in 0 1 0 tree.children)))
      ∙ ap (λ ms. old ++ (node_mark tree.kind ∷ (siblings inner ++ ms))) (all_left 0 1 0 tree.children [] ∙ append-nil (below inner))
