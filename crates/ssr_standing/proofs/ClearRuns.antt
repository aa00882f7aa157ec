-- The marks of a node and of all that is below it, where no place touches them.
use Rattle.std.proofs.Common.{◌≡◌, ◌∙◌, ℕ, zero, suc, ◌+◌, ◌≤◌, Bool, true, false, List, [], ◌∷◌, ◌++◌, drop, refl, sym, ap, arith}
use Rattle.std.specs.Prelude.{Option, Some, None, flat_map, if◌then◌else◌, nat_le, nat_lt, slice_get, ◌&&◌}
use Rattle.std.specs.Option.{option_map_or}
use Rattle.std.proofs.lemmas.Bool.{and_parts, lt-ltb, lt-leb, ltb-true}
use Rattle.std.proofs.lemmas.Grind.{flat_map-append}
use Rattle.ssr_syntax_kinds.specs.declared.kinds.SyntaxKind.{SyntaxKind}
use Rattle.ssr_syntax_kinds.specs.Kinds.{is_trivia}
use Rattle.ssr_syntax_tree.specs.Syntax.{Forest, nothing, leaf, branch, Syntax, node_count, token_count}
use Rattle.ssr_syntax_tree.specs.Places.{HasNode, Node, node_part, token_part, end_of, node_of, nodes_in, nodes_of, offset_of, parts_in, parts_of, size_of, start_of}
use Rattle.ssr_syntax_tree.proofs.Shared.{offset_grows}
use Rattle.ssr_base_trees.specs.Origins.{Span}
use Rattle.ssr_standing.specs.Around.{Mark, child_mark, has, hole_at, holds_tokens, marks_behind, marks_of, node_mark, outlined, passed, token_mark}
use Rattle.ssr_standing.specs.Private.Outlines.{BeginAlike, left_from}
use Rattle.ssr_standing.specs.Private.Passing.{is_clear}
use Rattle.ssr_standing.specs.Private.Runs.{below_of}
use Rattle.ssr_standing.proofs.Passed.{passed_on}
use Rattle.ssr_standing.proofs.Segments.{behind_all}

-- no place is passed behind so many, where the next one ends further on
none_more : (places : List Span) (c a : ℕ) → option_map_or (λ (place : Span). nat_lt a place.end) (slice_get places c) true ≡ true → passed (drop c places) a ≡ 0
none_more [] zero a h = refl
none_more [] (suc c) a h = refl
none_more (place ∷ places) zero a h = ap (λ (b : Bool). if b then 0 else passed places a + 1) h
none_more (place ∷ places) (suc c) a h = none_more places c a h

abbrev IsBehind : ℕ → Option Span → Type 0
IsBehind end o = option_map_or (λ (place : Span). nat_lt end place.start && nat_lt end place.end) o true ≡ true

ends_behind : (end a : ℕ) (o : Option Span) → IsBehind end o → a ≤ end → option_map_or (λ (place : Span). nat_lt a place.end) o true ≡ true
ends_behind end a None h within = refl
ends_behind end a (Some place) h within =
    let parts = and_parts (nat_lt end place.start) (nat_lt end place.end) h in
    lt-ltb a place.end (omega (arith, ltb-true end place.end parts.1))

begins_behind : (end a b : ℕ) (o : Option Span) → IsBehind end o → a ≤ end → option_map_or (has a b) o false ≡ false
begins_behind end a b None h within = refl
begins_behind end a b (Some place) h within =
    let parts = and_parts (nat_lt end place.start) (nat_lt end place.end) h in
    ap (λ (t : Bool). t && nat_le b place.end) (lt-leb place.start a (omega (arith, ltb-true end place.start parts.0)))

-- what begins in bytes that no place touches lies in none
clear_none : (places : List Span) (start end a b : ℕ) → is_clear places start end ≡ true → start ≤ a → a ≤ end → hole_at places a b ≡ None
clear_none places start end a b clear from within =
    let c = passed places start in
    let none : passed (drop c places) a ≡ 0 = none_more places c a (ends_behind end a (slice_get places c) clear within) in
    let same : passed places a ≡ c = omega (arith, none, passed_on places start a from) in
    ap (λ (n : ℕ). if option_map_or (has a b) (slice_get places n) false then Some n else None) same
    ∙ ap (λ (t : Bool). if t then Some c else None) (begins_behind end a b (slice_get places c) clear within)

-- the marks of siblings, and of the nodes among them and below, where none is a hole
abbrev child_marks : Forest → List Mark
child_marks nothing = []
child_marks (leaf token next) = if is_trivia token.kind then child_marks next else token_mark token ∷ child_marks next
child_marks (branch kind below next) = child_mark ∷ child_marks next

abbrev all_marks : Forest → List Mark
all_marks nothing = []
all_marks (leaf token next) = all_marks next
all_marks (branch kind below next) = (node_mark kind ∷ child_marks below) ++ (all_marks below ++ all_marks next)

module _ (places : List Span) (s : Syntax) (low high : ℕ) (clear : is_clear places (offset_of s low) (offset_of s high) ≡ true) where
  none_at : (t u : ℕ) → low ≤ t → t ≤ high → hole_at places (offset_of s t) (offset_of s u) ≡ None
  none_at t u from within =
      clear_none places (offset_of s low) (offset_of s high) (offset_of s t) (offset_of s u) clear (offset_grows s low t from) (offset_grows s t high within)

  children_clear : (parent m t : ℕ) (f : Forest) (joined : Bool) → low ≤ t → t + token_count f ≤ high
      → marks_behind places s joined None (parts_in parent m t f) ≡ child_marks f
  children_clear parent m t nothing joined from within = refl
  children_clear parent m t (leaf token next) joined from within =
      let rest = parts_in parent m (1 + t) next in
      ap (λ (hole : Option ℕ). if is_trivia token.kind then marks_behind places s joined None rest else marks_of joined None hole (token_part t token) ++ marks_behind places s joined hole rest)
      (none_at t (1 + t) from (omega arith))
      ∙ ap (λ (marks : List Mark). if is_trivia token.kind then marks else token_mark token ∷ marks)
      (children_clear parent m (1 + t) next joined (omega arith) (omega arith))
  children_clear parent m t (branch kind below next) joined from within =
      let node : Node = record { number = m; parent = parent; first = t; kind = kind; children = below } in
      let rest = parts_in parent (1 + m + node_count below) (t + token_count below) next in
      ap (λ (hole : Option ℕ). marks_of joined None hole (node_part node) ++ marks_behind places s joined hole rest)
      (none_at t (t + token_count below) from (omega arith))
      ∙ ap (λ (marks : List Mark). child_mark ∷ marks)
      (children_clear parent (1 + m + node_count below) (t + token_count below) next joined (omega arith) (omega arith))

  node_clear : (node : Node) → low ≤ node.first → node.first + token_count node.children ≤ high
      → outlined places s node ≡ node_mark node.kind ∷ child_marks node.children
  node_clear node from within =
      ap (λ (hole : Option ℕ). option_map_or (λ _. []) hole (node_mark node.kind ∷ marks_behind places s (holds_tokens node.kind) None (parts_of node)))
      (none_at node.first (node.first + token_count node.children) from (omega arith))
      ∙ ap (λ (marks : List Mark). node_mark node.kind ∷ marks)
      (children_clear node.number (1 + node.number) node.first node.children (holds_tokens node.kind) from within)

  nodes_clear : (parent m t : ℕ) (f : Forest) → low ≤ t → t + token_count f ≤ high
      → flat_map (outlined places s) (nodes_in parent m t f) ≡ all_marks f
  nodes_clear parent m t nothing from within = refl
  nodes_clear parent m t (leaf token next) from within = nodes_clear parent m (1 + t) next (omega arith) (omega arith)
  nodes_clear parent m t (branch kind below next) from within =
      let node : Node = record { number = m; parent = parent; first = t; kind = kind; children = below } in
      let inner = nodes_in m (1 + m) t below in
      let outer = nodes_in parent (1 + m + node_count below) (t + token_count below) next in
      ap (λ (marks : List Mark). outlined places s node ++ marks)
      (flat_map-append (outlined places s) inner outer
      ∙ ap (λ (marks : List Mark). marks ++ flat_map (outlined places s) outer) (nodes_clear m (1 + m) t below from (omega arith))
      ∙ ap (λ (marks : List Mark). all_marks below ++ marks)
      (nodes_clear parent (1 + m + node_count below) (t + token_count below) next (omega arith) (omega arith)))
      ∙ ap (λ (marks : List Mark). marks ++ (all_marks below ++ all_marks next)) (node_clear node from (omega arith))

-- the marks of a node and of all below it
abbrev run_marks : SyntaxKind → Forest → List Mark
run_marks kind below = (node_mark kind ∷ child_marks below) ++ all_marks below

run_clear : (places : List Span) (s : Syntax) (n : ℕ) → HasNode s n → is_clear places (start_of s (node_of s n)) (end_of s (node_of s n)) ≡ true
    → left_from places s n ≡ run_marks (node_of s n).kind (node_of s n).children ++ left_from places s (n + size_of (node_of s n))
run_clear places s n has clear =
    let node = node_of s n in
    let high = node.first + token_count node.children in
    ap (flat_map (outlined places s)) (behind_all s n has)
    ∙ flat_map-append (outlined places s) (node ∷ below_of node) (drop (n + size_of node) (nodes_of s))
    ∙ ap (λ (marks : List Mark). marks ++ left_from places s (n + size_of node))
    (ap (λ (marks : List Mark). outlined places s node ++ marks)
    (nodes_clear places s node.first high clear node.number (1 + node.number) node.first node.children (omega arith) (omega arith))
    ∙ ap (λ (marks : List Mark). marks ++ all_marks node.children) (node_clear places s node.first high clear node (omega arith) (omega arith)))

-- the same nodes, which no place touches, have the same marks
pub runs_alike : (places others : List Span) (s t : Syntax) (n m : ℕ) → HasNode s n → HasNode t m
    → is_clear places (start_of s (node_of s n)) (end_of s (node_of s n)) ≡ true
    → is_clear others (start_of t (node_of t m)) (end_of t (node_of t m)) ≡ true
    → (node_of s n).kind ≡ (node_of t m).kind → (node_of s n).children ≡ (node_of t m).children
    → BeginAlike (left_from places s n) (left_from others t m) (left_from places s (n + size_of (node_of s n))) (left_from others t (m + size_of (node_of t m)))
runs_alike places others s t n m has there clear free kinds children = record {
  front = run_marks (node_of s n).kind (node_of s n).children;
  some = omega arith;
  one_is = run_clear places s n has clear;
  two_is =
      run_clear others t m there free
      ∙ ap (λ (kind : SyntaxKind). run_marks kind (node_of t m).children ++ left_from others t (m + size_of (node_of t m))) (sym kinds)
      ∙ ap (λ (f : Forest). run_marks (node_of s n).kind f ++ left_from others t (m + size_of (node_of t m))) (sym children);
}
