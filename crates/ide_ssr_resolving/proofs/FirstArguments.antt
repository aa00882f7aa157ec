-- Nodes in first arguments: each node from the one above it.
use Rattle.std.proofs.Common.{◌≡◌, ℕ, ◌+◌, ◌<◌, ◌≤◌, Bool, true, false, ◌&&◌, ◌||◌, List, [], ◌∷◌, ◌++◌, length, take, get_or, Option, Some, None, refl, sym, ap, ◌∙◌, subst, arith, inl, inr}
use Rattle.std.proofs.lemmas.Bool.{cases_eq, and_parts, and_from, or_cases, or_left, or_right, leb-true, ltb-true, le-leb, lt-ltb}
use Rattle.std.proofs.lemmas.List.{get_or_default, get_or_append_left, length-append, take_all}
use Rattle.std.proofs.Math.Bool.{or-false}
use Rattle.std.proofs.Math.Seq.{get_or-append_seam}
use Rattle.std.proofs.lemmas.List.Elements.{All-filter}
use Rattle.std.proofs.lemmas.List.Folds.{Any-from_list_any, list_any-from_Any}
use Rattle.std.specs.Prelude.{nat_le, nat_lt, unwrap_or, IsNone, IfSome, ◌↔◌}
use Rattle.std.specs.Option.{option_map, option_map_or}
use Rattle.ssr_base_trees.specs.Meanings.{Meanings}
use Rattle.ssr_syntax_kinds.specs.declared.kinds.SyntaxKind.TheVariants as k
use Rattle.ssr_syntax_tree.specs.declared.number.NodeNo.{NodeNo}
use Rattle.ssr_syntax_tree.specs.Places.{Node, HasNode, node_of, nodes_of, root_of, size_of}
use Rattle.ssr_syntax_tree.specs.Syntax.{Syntax}
use Rattle.ssr_syntax_tree.proofs.Shared.{node_is, node_of-number, length-nodes_of, IsOver, inside, below_root}
use Rattle.ide_ssr_resolved_rule.specs.declared.qualified_calls.QualifiedCall.{QualifiedCall}
use Rattle.ide_ssr_resolved_rule.specs.declared.used_paths.UsedPath.{UsedPath}
use Rattle.ide_ssr_resolving.specs.Eligible.{first_argument_of, is_call, is_first_argument, holds, is_in_first_argument, is_eligible, eligible_paths_of}
use Rattle.ide_ssr_resolving.specs.QualifiedCalls.{first_in}
use Rattle.ide_ssr_resolved_rule.specs.UsedPaths.{HasPaths}
use Rattle.ide_ssr_resolving.specs.Private.Marks.{MarksCalls, MarksFirstArguments}

-- ** What a node is the first argument of.

root_above : (s : Syntax) → (node_of s 0).parent ≡ 0
unfolding node_of
root_above s = refl

pub no_call : (s : Syntax) (n : ℕ) → None ≡ first_in s k.ARG_LIST n → None ≡ first_argument_of s n
unfolding first_argument_of
no_call s n none = ap (option_map (λ arguments. (node_of s arguments).parent)) none

pub call_above : (s : Syntax) (n : ℕ) (arguments call : NodeNo) (parent : Option NodeNo) → Some arguments.0 ≡ first_in s k.ARG_LIST n
    → (IsNone parent ↔ (arguments.0 ≡ 0)) → IfSome parent (λ parent. parent.0 ≡ (node_of s arguments.0).parent) → call ≡ unwrap_or parent arguments
    → Some call.0 ≡ first_argument_of s n
unfolding first_argument_of
call_above s n arguments call None is root value given =
    let here : arguments.0 ≡ 0 = root.0 refl in
    let above : (node_of s arguments.0).parent ≡ 0 = ap (λ n. (node_of s n).parent) here ∙ root_above s in
    ap (λ (call : NodeNo). Some call.0) given ∙ ap Some (here ∙ sym above) ∙ ap (option_map (λ arguments. (node_of s arguments).parent)) is
call_above s n arguments call (Some parent) is root value given =
    ap (λ (call : NodeNo). Some call.0) given ∙ ap Some value ∙ ap (option_map (λ arguments. (node_of s arguments).parent)) is

same_Bool : (a b : Bool) → (a ≡ true → b ≡ true) → (b ≡ true → a ≡ true) → a ≡ b
same_Bool true b there back = sym (there refl)
same_Bool false true there back = back refl
same_Bool false false there back = refl

module _ (s : Syntax) (calls : List QualifiedCall) where
  abbrev holds_it : ℕ → Node → Bool
  holds_it n node = holds node n && is_first_argument s calls node.number

  -- a first argument that is a node or stands above it
  pub record IsIn (n : ℕ) : Type 0 where
    pub at : ℕ
    pub has : HasNode s at
    pub low : at ≤ n
    pub high : n < at + size_of (node_of s at)
    pub first : is_first_argument s calls at ≡ true

  told : (n : ℕ) → is_in_first_argument s calls n ≡ true → IsIn n
  unfolding is_in_first_argument
  told n is =
      let a = Any-from_list_any (holds_it n) (nodes_of s) is in
      let at = a.0 in
      let has : HasNode s at = let within = a.2 in omega (arith, within, length-nodes_of s) in
      let node = node_of s at in
      let number = node_of-number s at has in
      let same : a.1 ≡ node = sym (node_is s at has ∙ get_or_default (nodes_of s) at (root_of s) a.1 a.2 ∙ a.3) in
      let parts = and_parts (holds node n) (is_first_argument s calls node.number) (subst (λ node. holds_it n node ≡ true) same a.4) in
      let ends = and_parts (nat_le node.number n) (nat_lt n (node.number + size_of node)) parts.0 in
      let low = leb-true node.number n ends.0 in
      let high = ltb-true n (node.number + size_of node) ends.1 in
      record {
        at = at;
        has = has;
        low = omega (arith, low, number);
        high = omega (arith, high, number);
        first = ap (is_first_argument s calls) (sym number) ∙ parts.1;
      }

  pub shown : (n : ℕ) → IsIn n → is_in_first_argument s calls n ≡ true
  unfolding is_in_first_argument
  shown n is =
      let node = node_of s is.at in
      let number = node_of-number s is.at is.has in
      let within : is.at < length (nodes_of s) = let has = is.has in omega (arith, has, length-nodes_of s) in
      let low : node.number ≤ n = let low = is.low in omega (arith, low, number) in
      let high : n < node.number + size_of node = let high = is.high in omega (arith, high, number) in
      list_any-from_Any (holds_it n) (nodes_of s) (
        is.at,
        node,
        within,
        get_or_default (nodes_of s) is.at _ (root_of s) within ∙ sym (node_is s is.at is.has),
        and_from (holds node n) _ (and_from (nat_le node.number n) _ (le-leb node.number n low) (lt-ltb n _ high)) (ap (is_first_argument s calls) number ∙ is.first),
      )

  -- ** Each node from the one above it.

  itself : (n : ℕ) → HasNode s n → is_first_argument s calls n ≡ true → IsIn n
  itself n has first = record { at = n; has = has; low = omega arith; high = omega arith; first = first }

  at_root : IsIn 0 → is_first_argument s calls 0 ≡ true
  at_root is = let zero : is.at ≡ 0 = (let low = is.low in omega (arith, low)) in subst (λ n. is_first_argument s calls n ≡ true) zero is.first

  over_parent : (n : ℕ) → HasNode s n → 0 < n → IsOver s (node_of s n).parent n
  over_parent n has below = (inside s 0 n (let root : HasNode s 0 = omega arith in root) (below_root s n has below)).parent

  down : (n : ℕ) → HasNode s n → 0 < n → IsIn (node_of s n).parent → IsIn n
  down n has below is =
      let parent = (node_of s n).parent in
      let over = over_parent n has below in
      let low = is.low in
      let high = is.high in
      let ends : n < is.at + size_of (node_of s is.at) =
      elim (cases_eq is.at parent) [
        | inl same ↦ subst (λ k. n < k + size_of (node_of s k)) (sym same) over.1
        | inr other ↦
            let above = (inside s is.at parent is.has (omega (arith, low, other), high)).ends in
            omega (arith, above, over.1)
      ] in
      record { at = is.at; has = is.has; low = omega (arith, low, over.0); high = ends; first = is.first }

  up : (n : ℕ) (is : IsIn n) → (is.at ≡ n → ⊥) → IsIn (node_of s n).parent
  up n is other =
      let low = is.low in
      let high = is.high in
      let over = inside s is.at n is.has (omega (arith, low, other), high) in
      let least = over.low in
      let parent = over.parent in
      record { at = is.at; has = is.has; low = least; high = omega (arith, high, parent.0); first = is.first }

  in_root : is_in_first_argument s calls 0 ≡ is_first_argument s calls 0
  in_root = same_Bool _ _ (λ is. at_root (told 0 is)) (λ first. shown 0 (itself 0 (let root : HasNode s 0 = omega arith in root) first))

  in_node : (n : ℕ) → HasNode s n → 0 < n
      → is_in_first_argument s calls n ≡ (is_first_argument s calls n || is_in_first_argument s calls (node_of s n).parent)
  in_node n has below =
      let first = is_first_argument s calls n in
      let above = is_in_first_argument s calls (node_of s n).parent in
      same_Bool _ _
      (λ is.
      let it = told n is in
      elim (cases_eq it.at n) [
        | inl same ↦ or_left first above (subst (λ k. is_first_argument s calls k ≡ true) same it.first)
        | inr other ↦ or_right first above (shown (node_of s n).parent (up n it other))
      ])
      (λ either.
      elim (or_cases first above either) [
        | inl here ↦ shown n (itself n has here)
        | inr higher ↦ shown n (down n has below (told (node_of s n).parent higher))
      ])

  -- ** Marks.

  one_marked : (past : ℕ) (marks : List Bool) (mark : Bool) → mark ≡ is_in_first_argument s calls past → MarksFirstArguments s calls past marks
      → MarksFirstArguments s calls (past + 1) (marks ++ mark ∷ [])
  one_marked past marks mark is so_far =
      let long = so_far.long in
      record {
        long = omega (arith, length-append marks (mark ∷ []), long);
        marked = λ n low.
            elim (cases_eq n past) [
              | inl same ↦
                  let at : n ≡ length marks = omega (arith, same, long) in
                  ap (λ k. get_or (marks ++ mark ∷ []) k false) at ∙ get_or-append_seam marks mark [] false ∙ is ∙ ap (is_in_first_argument s calls) (sym same)
              | inr other ↦ get_or_append_left marks (mark ∷ []) false n (omega (arith, low, other, long)) ∙ so_far.marked n (omega (arith, low, other))
            ];
      }

  pub first_marked : (n : ℕ) (marks read : List Bool) (first : Bool) (call : Option NodeNo) → MarksCalls calls marks → read ≡ marks
      → option_map (λ (call : NodeNo). call.0) call ≡ first_argument_of s n → first ≡ option_map_or (λ (call : NodeNo). get_or read call.0 false) call false
      → first ≡ is_first_argument s calls n
  first_marked n marks read first None marked same is marks_it = marks_it ∙ ap (λ call. option_map_or (is_call calls) call false) is
  first_marked n marks read first (Some call) marked same is marks_it =
      marks_it ∙ ap (λ marks. get_or marks call.0 false) same ∙ marked call.0 ∙ ap (λ call. option_map_or (is_call calls) call false) is

  pub next_marked : (past : ℕ) (marks new : List Bool) (first above : Bool) (parent : Option NodeNo) → HasNode s past → MarksFirstArguments s calls past marks
      → first ≡ is_first_argument s calls past → (IsNone parent ↔ (past ≡ 0)) → IfSome parent (λ parent. parent.0 ≡ (node_of s past).parent)
      → above ≡ option_map_or (λ (parent : NodeNo). get_or marks parent.0 false) parent false → new ≡ marks ++ (first || above) ∷ []
      → MarksFirstArguments s calls (past + 1) new
  next_marked past marks new first above None has so_far is root value below pushed =
      let here : past ≡ 0 = root.0 refl in
      let none : (first || above) ≡ first = ap (λ b. first || b) below ∙ or-false first in
      let mark : (first || above) ≡ is_in_first_argument s calls past =
      none ∙ is ∙ subst (λ n. is_first_argument s calls n ≡ is_in_first_argument s calls n) (sym here) (sym in_root) in
      subst (MarksFirstArguments s calls (past + 1)) (sym pushed) (one_marked past marks (first || above) mark so_far)
  next_marked past marks new first above (Some parent) has so_far is root value below pushed =
      let under : 0 < past =
      elim (cases_eq past 0) [ inl zero ↦ absurd (let wrong : true ≡ false = root.1 zero in cc) | inr other ↦ omega (arith, other) ] in
      let over = over_parent past has under in
      let low : parent.0 < past = omega (arith, over.0, value) in
      let higher : above ≡ is_in_first_argument s calls (node_of s past).parent =
      below ∙ so_far.marked parent.0 low ∙ ap (is_in_first_argument s calls) value in
      let mark : (first || above) ≡ is_in_first_argument s calls past =
      ap (λ b. b || above) is ∙ ap (λ b. is_first_argument s calls past || b) higher ∙ sym (in_node past has under) in
      subst (MarksFirstArguments s calls (past + 1)) (sym pushed) (one_marked past marks (first || above) mark so_far)

-- ** Eligible paths.

pub eligible_had : (m : Meanings) (s : Syntax) (calls : List QualifiedCall) (paths : List UsedPath) (i : ℕ) (found : List UsedPath) → length paths ≤ i
    → HasPaths s paths → found ≡ eligible_paths_of m s calls (take i paths) → HasPaths s found
eligible_had m s calls paths i found all had is =
    let HasIt : UsedPath → Type 0 = λ path. HasNode s path.node.0 in
    subst (HasPaths s) (sym (is ∙ ap (eligible_paths_of m s calls) (take_all i paths all))) (All-filter (is_eligible m s calls) HasIt paths had)
