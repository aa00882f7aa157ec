-- What is left of two outlines, node by node.
use Rattle.std.proofs.Common.{◌≡◌, ◌∙◌, ℕ, ◌+◌, ◌<◌, ◌≤◌, Bool, true, false, List, [], ◌∷◌, ◌++◌, length, drop, refl, sym, ap, arith, length-append}
use Rattle.std.specs.Prelude.{◌↔◌, Option, Some, None, flat_map, if◌then◌else◌, is_some, not, ◌&&◌}
use Rattle.std.specs.Option.{option_map_or}
use Rattle.std.proofs.lemmas.Bool.{and_parts, false≢true}
use Rattle.std.proofs.lemmas.List.{append_cancel_left, drop_all}
use Rattle.ssr_syntax_kinds.specs.declared.kinds.SyntaxKind.{SyntaxKind}
use Rattle.ssr_syntax_tree.specs.Syntax.{Syntax, node_count}
use Rattle.ssr_syntax_tree.specs.Places.{HasNode, Node, Part, token_part, node_part, node_of, nodes_of, parts_of}
use Rattle.ssr_syntax_tree.proofs.Shared.{length-nodes_of, node_left}
use Rattle.ssr_base_trees.specs.Origins.{Span}
use Rattle.ssr_standing.specs.Around.{Mark, child_mark, hole_mark, hole_of, holds_tokens, is_number, is_trivia_part, marks_behind, marks_of, node_mark, outlined, token_mark}
use Rattle.ssr_standing.specs.Private.Outlines.{BeginAlike, left_from, own_marks}

-- ** Where a node's own marks end.

abbrev is_node : Mark → Bool
is_node (node_mark kind) = true
is_node (token_mark token) = false
is_node child_mark = false
is_node (hole_mark n) = false

-- there is none, or the first one is that of a node
abbrev begins_node : List Mark → Bool
begins_node [] = true
begins_node (mark ∷ marks) = is_node mark

-- none is that of a node
abbrev no_node : List Mark → Bool
no_node [] = true
no_node (mark ∷ marks) = not (is_node mark) && no_node marks

not_both : (mark : Mark) → not (is_node mark) ≡ true → is_node mark ≡ true → ⊥
not_both (node_mark kind) h e = cc
not_both (token_mark token) h e = cc
not_both child_mark h e = cc
not_both (hole_mark n) h e = cc

-- marks of children, with those of nodes behind them, are the same only with the same marks of children
cut : (xs ys behind after : List Mark) → no_node xs ≡ true → no_node ys ≡ true → begins_node behind ≡ true → begins_node after ≡ true
    → xs ++ behind ≡ ys ++ after → xs ≡ ys
cut [] [] behind after h g b a same = refl
cut [] (y ∷ ys) behind after h g b a same =
    absurd (not_both y (and_parts (not (is_node y)) (no_node ys) g).0 (sym (ap begins_node same) ∙ b))
cut (x ∷ xs) [] behind after h g b a same =
    absurd (not_both x (and_parts (not (is_node x)) (no_node xs) h).0 (ap begins_node same ∙ a))
cut (x ∷ xs) (y ∷ ys) behind after h g b a same =
    let first : x ≡ y = cc in
    let left : xs ++ behind ≡ ys ++ after = cc in
    ap (λ (mark : Mark). mark ∷ xs) first
    ∙ ap (λ (marks : List Mark). y ∷ marks)
    (cut xs ys behind after (and_parts (not (is_node x)) (no_node xs) h).1 (and_parts (not (is_node y)) (no_node ys) g).1 b a left)

no_node_behind : (xs ys : List Mark) → no_node xs ≡ true → no_node ys ≡ true → no_node (xs ++ ys) ≡ true
no_node_behind [] ys h g = g
no_node_behind (x ∷ xs) ys h g =
    let parts = and_parts (not (is_node x)) (no_node xs) h in
    ap (λ (b : Bool). b && no_node (xs ++ ys)) parts.0 ∙ no_node_behind xs ys parts.1 g

no_node_of : (joined : Bool) (before hole : Option ℕ) (part : Part) → no_node (marks_of joined before hole part) ≡ true
no_node_of joined before None (token_part t token) = refl
no_node_of joined before None (node_part node) = refl
no_node_of joined before (Some n) part = by (joined && is_number n before)
  where
    by : (b : Bool) → no_node (if b then [] else hole_mark n ∷ []) ≡ true
    by true = refl
    by false = refl

no_node_next : (b : Bool) (xs ys zs : List Mark) → no_node xs ≡ true → no_node ys ≡ true → no_node zs ≡ true → no_node (if b then xs else ys ++ zs) ≡ true
no_node_next true xs ys zs h g k = h
no_node_next false xs ys zs h g k = no_node_behind ys zs g k

no_node_among : (places : List Span) (s : Syntax) (joined : Bool) (before : Option ℕ) (parts : List Part) → no_node (marks_behind places s joined before parts) ≡ true
no_node_among places s joined before [] = refl
no_node_among places s joined before (part ∷ rest) =
    let hole = hole_of places s part in
    no_node_next (is_trivia_part part) (marks_behind places s joined before rest) (marks_of joined before hole part) (marks_behind places s joined hole rest)
    (no_node_among places s joined before rest) (no_node_of joined before hole part) (no_node_among places s joined hole rest)

begins_next : (hole : Option ℕ) (kind : SyntaxKind) (own behind : List Mark) → begins_node behind ≡ true
    → begins_node (option_map_or (λ _. []) hole (node_mark kind ∷ own) ++ behind) ≡ true
begins_next None kind own behind h = refl
begins_next (Some n) kind own behind h = h

begins_nodes : (places : List Span) (s : Syntax) (nodes : List Node) → begins_node (flat_map (outlined places s) nodes) ≡ true
begins_nodes places s [] = refl
begins_nodes places s (node ∷ nodes) =
    begins_next (hole_of places s (node_part node)) node.kind (marks_behind places s (holds_tokens node.kind) None (parts_of node))
    (flat_map (outlined places s) nodes) (begins_nodes places s nodes)

-- ** One node of each.

-- nothing is left of a node that lies in a place
pub hole_passed : (places others : List Span) (s : Syntax) (n : ℕ) (hole : Option ℕ) (none : Bool) → HasNode s n → others ≡ places
    → hole ≡ hole_of others s (node_part (node_of s n)) → is_some hole ≡ not none → none ≡ false → left_from others s (n + 1) ≡ left_from places s n
hole_passed places others s n None none has same is told e = absurd (false≢true (told ∙ ap not e))
hole_passed places others s n (Some k) none has same is told e =
    let node = node_of s n in
    sym
    (ap (λ (ps : List Span). left_from ps s n) (sym same)
    ∙ ap (flat_map (outlined others s)) (node_left s n has)
    ∙ ap (λ (hole : Option ℕ). option_map_or (λ _. []) hole (node_mark node.kind ∷ own_marks others s node) ++ left_from others s (n + 1)) (sym is))

-- behind the last node nothing is left
pub none_left : (places : List Span) (s : Syntax) (n : ℕ) → 1 + node_count s.children ≤ n → left_from places s n ≡ []
none_left places s n all = ap (flat_map (outlined places s)) (drop_all n (nodes_of s) (omega (arith, length-nodes_of s)))

-- one that lies in none
node_left_first : (places : List Span) (s : Syntax) (n : ℕ) → HasNode s n → hole_of places s (node_part (node_of s n)) ≡ None
    → left_from places s n ≡ (node_mark (node_of s n).kind ∷ own_marks places s (node_of s n)) ++ left_from places s (1 + n)
node_left_first places s n has kept =
    let next : n + 1 ≡ 1 + n = omega arith in
    ap (flat_map (outlined places s)) (node_left s n has)
    ∙ ap (λ (hole : Option ℕ). option_map_or (λ _. []) hole (node_mark (node_of s n).kind ∷ own_marks places s (node_of s n)) ++ left_from places s (n + 1)) kept
    ∙ ap (λ (k : ℕ). (node_mark (node_of s n).kind ∷ own_marks places s (node_of s n)) ++ left_from places s k) next

module _ (places others : List Span) (s t : Syntax) (n m : ℕ) (has : HasNode s n) (there : HasNode t m)
    (kept : hole_of places s (node_part (node_of s n)) ≡ None) (whole : hole_of others t (node_part (node_of t m)) ≡ None) where
  -- of the same kind, with the same marks of children
  pub nodes_alike : (node_of s n).kind ≡ (node_of t m).kind → own_marks places s (node_of s n) ≡ own_marks others t (node_of t m)
      → BeginAlike (left_from places s n) (left_from others t m) (left_from places s (1 + n)) (left_from others t (1 + m))
  nodes_alike kinds marks = record {
    front = node_mark (node_of s n).kind ∷ own_marks places s (node_of s n);
    some = omega arith;
    one_is = node_left_first places s n has kept;
    two_is =
        node_left_first others t m there whole
        ∙ ap (λ (kind : SyntaxKind). (node_mark kind ∷ own_marks others t (node_of t m)) ++ left_from others t (1 + m)) (sym kinds)
        ∙ ap (λ (marks : List Mark). (node_mark (node_of s n).kind ∷ marks) ++ left_from others t (1 + m)) (sym marks);
  }

  -- where the same is left, they are
  pub nodes_same : left_from places s n ≡ left_from others t m
      → ((node_of s n).kind ≡ (node_of t m).kind) × (own_marks places s (node_of s n) ≡ own_marks others t (node_of t m))
  nodes_same same =
      let both : (node_mark (node_of s n).kind ∷ own_marks places s (node_of s n)) ++ left_from places s (1 + n) ≡ (node_mark (node_of t m).kind ∷ own_marks others t (node_of t m)) ++ left_from others t (1 + m) =
      sym (node_left_first places s n has kept) ∙ same ∙ node_left_first others t m there whole in
      let kinds : (node_of s n).kind ≡ (node_of t m).kind = cc in
      let left : own_marks places s (node_of s n) ++ left_from places s (1 + n) ≡ own_marks others t (node_of t m) ++ left_from others t (1 + m) = cc in (
        kinds,
        cut (own_marks places s (node_of s n)) (own_marks others t (node_of t m)) (left_from places s (1 + n)) (left_from others t (1 + m))
            (no_node_among places s (holds_tokens (node_of s n).kind) None (parts_of (node_of s n)))
            (no_node_among others t (holds_tokens (node_of t m).kind) None (parts_of (node_of t m)))
            (begins_nodes places s (drop (1 + n) (nodes_of s))) (begins_nodes others t (drop (1 + m) (nodes_of t))) left,
      )

-- ** Both outlines.

-- what is behind the same front is the same just where the whole is
pub behind_alike : (xs ys behind after : List Mark) → BeginAlike xs ys behind after → (xs ≡ ys) ↔ (behind ≡ after)
behind_alike xs ys behind after alike = (
  λ same. append_cancel_left alike.front behind after (sym alike.one_is ∙ same ∙ alike.two_is),
  λ same. alike.one_is ∙ ap (λ (marks : List Mark). alike.front ++ marks) same ∙ sym alike.two_is,
)

-- and there is less of it
pub behind_shorter : (xs ys behind after : List Mark) → BeginAlike xs ys behind after → length behind < length xs
behind_shorter xs ys behind after alike = omega (arith, alike.some, ap length alike.one_is, length-append alike.front behind)

-- nothing is left of one, and something of the other
pub some_left : (places : List Span) (s : Syntax) (n : ℕ) → HasNode s n → hole_of places s (node_part (node_of s n)) ≡ None
    → left_from places s n ≡ [] → ⊥
some_left places s n has kept none =
    let first : (node_mark (node_of s n).kind ∷ own_marks places s (node_of s n)) ++ left_from places s (1 + n) ≡ [] = sym (node_left_first places s n has kept) ∙ none in
    cc

-- what was the same up to here is so behind the same front
pub further : (whole : Type 0) (xs ys one two behind after left more : List Mark) → one ≡ xs → two ≡ ys → whole ↔ (xs ≡ ys)
    → BeginAlike one two behind after → left ≡ behind → more ≡ after → whole ↔ (left ≡ more)
further whole xs ys one two behind after left more is also h alike here there =
    let step = behind_alike one two behind after alike in (
      λ w. here ∙ step.0 (is ∙ h.0 w ∙ sym also) ∙ sym there,
      λ same. h.1 (sym is ∙ step.1 (sym here ∙ same ∙ there) ∙ also),
    )

-- at the end of one outline the other one decides
pub ended : (whole : Type 0) (xs ys one two : List Mark) (told : Bool) → one ≡ xs → two ≡ ys → whole ↔ (xs ≡ ys) → one ≡ []
    → (told ≡ false → two ≡ []) → (told ≡ true → two ≡ [] → ⊥) → (not told ≡ true) ↔ whole
ended whole xs ys one two true is also h none gone some = (
  λ e. absurd (false≢true e),
  λ w. absurd (some refl (also ∙ sym (h.0 w) ∙ sym is ∙ none)),
)
ended whole xs ys one two false is also h none gone some = (λ e. h.1 (sym is ∙ none ∙ sym (gone refl) ∙ also), λ w. refl)
