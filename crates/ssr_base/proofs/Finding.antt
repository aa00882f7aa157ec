-- How the macro call at a range is found: nodes begin one behind another, and the first ones that begin before the range are passed.
use Rattle.std.proofs.Common.{◌≡◌, ℕ, zero, suc, ◌+◌, ◌-◌, ◌<◌, ◌≤◌, ◌==◌, Bool, true, false, cond, drop, Some, None, refl, sym, ap, ◌∙◌, inl, inr, arith, ne_eqb}
use Rattle.std.proofs.lemmas.Bool.{cases_lt, cases_eq, and_left, and_right}
use Rattle.std.proofs.lemmas.List.{drop_all}
use Rattle.std.specs.List.{find}
use Rattle.ssr_syntax_kinds.specs.Kinds.{same_kind}
use Rattle.ssr_syntax_kinds.specs.declared.kinds.SyntaxKind.TheVariants as k
use Rattle.ssr_syntax_kinds.specs.declared.range.TextRange.{TextRange}
use Rattle.ssr_syntax_tree.specs.Syntax.{Syntax, node_count}
use Rattle.ssr_syntax_tree.specs.Places.{Node, HasNode, node_of, nodes_of, size_of, start_of, end_of}
use Rattle.ssr_syntax_tree.proofs.Shared.{node_of-number, node_left, length-nodes_of, start_before_end, start_of-below, ranges_apart}
use Rattle.std.specs.Option.{option_map}
use Rattle.ssr_base.specs.Building.{is_call, first_call}
use Rattle.ssr_base.specs.Private.Finding.{NodesBefore, NodesFrom}

-- nodes begin in their order
pub starts_sorted : (syntax : Syntax) (n m : ℕ) → HasNode syntax m → n ≤ m → start_of syntax (node_of syntax n) ≤ start_of syntax (node_of syntax m)
starts_sorted syntax n m has le =
    let has_n : HasNode syntax n = omega arith in
    let number = node_of-number syntax n has_n in
    elim (cases_lt m (n + size_of (node_of syntax n))) [
      | inl inside ↦
          elim (cases_eq n m) [
            | inl same ↦ omega (arith, ap (λ i. start_of syntax (node_of syntax i)) same)
            | inr other ↦ start_of-below syntax n m has_n (omega (arith, number, other), omega (arith, number, inside))
          ]
      | inr behind ↦ omega (arith, start_before_end syntax (node_of syntax n), ranges_apart syntax n m has_n has behind)
    ]

pub before_more : (syntax : Syntax) (offset middle : ℕ) → HasNode syntax middle → start_of syntax (node_of syntax middle) < offset → NodesBefore syntax offset (middle + 1)
before_more syntax offset middle has low n h before = omega (arith, starts_sorted syntax n middle has (omega arith))

pub from_less : (syntax : Syntax) (offset middle : ℕ) → HasNode syntax middle → offset ≤ start_of syntax (node_of syntax middle) → NodesFrom syntax offset middle
from_less syntax offset middle has high n h behind = omega (arith, starts_sorted syntax middle n h behind)

-- ** The first node that passes a test, where the nodes before a number don't.

module _ (test : Node → Bool) (syntax : Syntax) where
  pub found_at : (n : ℕ) → HasNode syntax n → test (node_of syntax n) ≡ true → find test (drop n (nodes_of syntax)) ≡ Some (node_of syntax n)
  found_at n has is =
      ap (find test) (node_left syntax n has)
      ∙ ap (λ b. cond b (Some (node_of syntax n)) (find test (drop (n + 1) (nodes_of syntax)))) is

  pub passed_at : (n : ℕ) → HasNode syntax n → test (node_of syntax n) ≡ false → find test (drop n (nodes_of syntax)) ≡ find test (drop (n + 1) (nodes_of syntax))
  passed_at n has is =
      ap (find test) (node_left syntax n has)
      ∙ ap (λ b. cond b (Some (node_of syntax n)) (find test (drop (n + 1) (nodes_of syntax)))) is

  pub all_passed : (n : ℕ) → n ≤ 1 + node_count syntax.children → ((m : ℕ) → HasNode syntax m → m < n → test (node_of syntax m) ≡ false)
      → find test (drop n (nodes_of syntax)) ≡ find test (nodes_of syntax)
  all_passed zero le none = refl
  all_passed (suc n) le none =
      let next : suc n ≡ n + 1 = omega arith in
      ap (λ i. find test (drop i (nodes_of syntax))) next
      ∙ sym (passed_at n (omega arith) (none n (omega arith) (omega arith)))
      ∙ all_passed n (omega arith) (λ m h before. none m h (omega arith))

  none_of_so_many : (left n : ℕ) → n + left ≡ 1 + node_count syntax.children → ((m : ℕ) → HasNode syntax m → n ≤ m → test (node_of syntax m) ≡ false)
      → find test (drop n (nodes_of syntax)) ≡ None
  none_of_so_many zero n e none = ap (find test) (drop_all n (nodes_of syntax) (omega (arith, length-nodes_of syntax)))
  none_of_so_many (suc left) n e none =
      passed_at n (omega arith) (none n (omega arith) (omega arith))
      ∙ none_of_so_many left (n + 1) (omega arith) (λ m h behind. none m h (omega arith))

  pub none_from : (n : ℕ) → n ≤ 1 + node_count syntax.children → ((m : ℕ) → HasNode syntax m → n ≤ m → test (node_of syntax m) ≡ false)
      → find test (drop n (nodes_of syntax)) ≡ None
  none_from n le none = none_of_so_many (1 + node_count syntax.children - n) n (omega arith) none

-- ** The test for a call.

-- a node that begins elsewhere is no call of this range
pub no_call_elsewhere : (syntax : Syntax) (range : TextRange) (node : Node) → (start_of syntax node ≡ range.start → ⊥) → is_call syntax range node ≡ false
no_call_elsewhere syntax range node other =
    and_left _ (end_of syntax node == range.end)
    (and_right (same_kind node.kind k.MACRO_CALL) _ (ne_eqb (start_of syntax node) range.start other))

-- ** The steps.

-- the nodes from a number on, of which the first call is the first one of all
abbrev pub AreLeft : Syntax → TextRange → ℕ → Type 0
AreLeft syntax range n = find (is_call syntax range) (drop n (nodes_of syntax)) ≡ first_call syntax range

pub left_first : (syntax : Syntax) (range : TextRange) (n : ℕ) → n ≤ 1 + node_count syntax.children → NodesBefore syntax range.start n → AreLeft syntax range n
unfolding first_call
left_first syntax range n le before =
    all_passed (is_call syntax range) syntax n le
    (λ m h less. no_call_elsewhere syntax range (node_of syntax m) (λ e. omega (arith, before m h less, e)))

pub left_next : (syntax : Syntax) (range : TextRange) (n : ℕ) → HasNode syntax n → is_call syntax range (node_of syntax n) ≡ false → AreLeft syntax range n → AreLeft syntax range (n + 1)
left_next syntax range n has is left = sym (passed_at (is_call syntax range) syntax n has is) ∙ left

pub left_found : (syntax : Syntax) (range : TextRange) (n : ℕ) → HasNode syntax n → is_call syntax range (node_of syntax n) ≡ true → AreLeft syntax range n
    → Some n ≡ option_map (λ node. node.number) (first_call syntax range)
left_found syntax range n has is left =
    ap Some (sym (node_of-number syntax n has))
    ∙ ap (option_map (λ node. node.number)) (sym (found_at (is_call syntax range) syntax n has is) ∙ left)

pub left_none : (syntax : Syntax) (range : TextRange) (n : ℕ) → n ≤ 1 + node_count syntax.children → AreLeft syntax range n
    → ((m : ℕ) → HasNode syntax m → n ≤ m → start_of syntax (node_of syntax m) ≡ range.start → ⊥)
    → None ≡ option_map (λ (node : Node). node.number) (first_call syntax range)
left_none syntax range n le left none =
    ap (option_map (λ node. node.number))
    (sym (none_from (is_call syntax range) syntax n le (λ m h behind. no_call_elsewhere syntax range (node_of syntax m) (none m h behind))) ∙ left)

-- where the nodes that are left begin at the range or behind it and the first of them elsewhere, all begin elsewhere
pub all_elsewhere : (syntax : Syntax) (start n : ℕ) → HasNode syntax n → NodesFrom syntax start n → (start_of syntax (node_of syntax n) ≡ start → ⊥)
    → (m : ℕ) → HasNode syntax m → n ≤ m → start_of syntax (node_of syntax m) ≡ start → ⊥
all_elsewhere syntax start n has behind other m h le e =
    let here : start ≤ start_of syntax (node_of syntax n) = behind n has (omega arith) in
    other (omega (arith, starts_sorted syntax n m h le, e, here))
