-- A token has one parent.
use Rattle.std.proofs.Common.{◌≡◌, ℕ, ◌+◌, ◌<◌, ◌≤◌, ◌++◌, map, Some, Contains, inl, inr, sym, ap, ◌∙◌, subst, arith}
use Rattle.std.specs.Prelude.{nat_lt, if◌then◌else◌}
use Rattle.std.proofs.lemmas.Bool.{lt-ltb, le-ltb, cond-true, cond-false}
use Rattle.std.proofs.lemmas.List.Elements.{Contains-get_or, Contains-append_cases}
use Rattle.ssr_syntax_kinds.specs.declared.kinds.SyntaxKind.{SyntaxKind}
use Rattle.ssr_syntax_tree.specs.declared.number.Element.{Element}
use Rattle.ssr_syntax_tree.specs.declared.number.Element.TheVariants as element
use Rattle.ssr_syntax_tree.specs.Syntax.{Token, Forest, nothing, leaf, branch, Syntax, node_count, token_count}
use Rattle.ssr_syntax_tree.specs.Places.{Node, node_part, node_of, nodes_of, nodes_in, root_of, parts_in, elements_of, element_of}
use Rattle.ssr_syntax_tree.proofs.Shared.{node_of-number, node_is, length-nodes_of}
use Rattle.ide_ssr_search.specs.Positions.{IsFirst}
use Rattle.ssr_syntax_tree.proofs.Lists.{front_or_back}
use Rattle.ide_ssr_search.proofs.PositionNodes.{token_at}

abbrev number_of : Element → ℕ
number_of (element.Token t) = t.0
number_of (element.Node n) = n.0

-- the parent of the token u, computed along siblings below `parent`, where the next node has the number m and the next token t
abbrev parent_by : ℕ → ℕ → ℕ → ℕ → Forest → ℕ
parent_by parent m t u nothing = parent
parent_by parent m t u (leaf token next) = if nat_lt u (1 + t) then parent else parent_by parent m (1 + t) u next
parent_by parent m t u (branch kind below next) =
    if nat_lt u (t + token_count below)
    then parent_by m (1 + m) t u below
    else parent_by parent (1 + m + node_count below) (t + token_count below) u next

-- the token is one of these siblings or stands below one, and its parent is the node n
record HasParent (parent m t u : ℕ) (forest : Forest) (n : ℕ) : Type 0 where
  low : t ≤ u
  high : u < t + token_count forest
  is : parent_by parent m t u forest ≡ n

module _ (parent m t u n : ℕ) (next : Forest) where
  behind_leaf : (token : Token) → HasParent parent m (1 + t) u next n → HasParent parent m t u (leaf token next) n
  behind_leaf token h =
      let low = h.low in
      let high = h.high in
      record {
        low = omega arith;
        high = omega arith;
        is = cond-false (nat_lt u (1 + t)) parent (parent_by parent m (1 + t) u next) (le-ltb u (1 + t) low) ∙ h.is;
      }

  behind_branch : (kind : SyntaxKind) (below : Forest) → HasParent parent (1 + m + node_count below) (t + token_count below) u next n
      → HasParent parent m t u (branch kind below next) n
  behind_branch kind below h =
      let low = h.low in
      let high = h.high in
      record {
        low = omega arith;
        high = omega arith;
        is =
            cond-false (nat_lt u (t + token_count below)) (parent_by m (1 + m) t u below) (parent_by parent (1 + m + node_count below) (t + token_count below) u next)
            (le-ltb u (t + token_count below) low)
            ∙ h.is;
      }

  below_branch : (kind : SyntaxKind) (below : Forest) → HasParent m (1 + m) t u below n → HasParent parent m t u (branch kind below next) n
  below_branch kind below h =
      let high = h.high in
      record {
        low = h.low;
        high = omega arith;
        is =
            cond-true (nat_lt u (t + token_count below)) (parent_by m (1 + m) t u below) (parent_by parent (1 + m + node_count below) (t + token_count below) u next)
            (lt-ltb u (t + token_count below) high)
            ∙ h.is;
      }

-- the parent of a sibling
of_sibling : (parent m t u : ℕ) (forest : Forest) → Contains (map element_of (parts_in parent m t forest)) (token_at u) → HasParent parent m t u forest parent
of_sibling parent m t u nothing at = absurd (let within = at.1 in omega arith)
of_sibling parent m t u (leaf token next) at =
    elim (front_or_back (token_at t) (token_at u) (map element_of (parts_in parent m (1 + t) next)) at) [
      | inl same ↦
          let here : t ≡ u = ap number_of same in
          record {
            low = omega arith;
            high = omega arith;
            is = cond-true (nat_lt u (1 + t)) parent (parent_by parent m (1 + t) u next) (lt-ltb u (1 + t) (omega arith));
          }
      | inr behind ↦ behind_leaf parent m t u parent next token (of_sibling parent m (1 + t) u next behind)
    ]
of_sibling parent m t u (branch kind below next) at =
    let node : Node = record { number = m; parent = parent; first = t; kind = kind; children = below } in
    let rest = parts_in parent (1 + m + node_count below) (t + token_count below) next in
    elim (front_or_back (element_of (node_part node)) (token_at u) (map element_of rest) at) [
      | inl other ↦ cc
      | inr behind ↦
          behind_branch parent m t u parent next kind below (of_sibling parent (1 + m + node_count below) (t + token_count below) u next behind)
    ]

-- the parent of a child of a node
of_child : (parent m t u : ℕ) (forest : Forest) (x : Node) → Contains (nodes_in parent m t forest) x → Contains (elements_of x) (token_at u)
    → HasParent parent m t u forest x.number
of_child parent m t u nothing x at child = absurd (let within = at.1 in omega arith)
of_child parent m t u (leaf token next) x at child = behind_leaf parent m t u x.number next token (of_child parent m (1 + t) u next x at child)
of_child parent m t u (branch kind below next) x at child =
    let node : Node = record { number = m; parent = parent; first = t; kind = kind; children = below } in
    let inside = nodes_in m (1 + m) t below in
    let rest = nodes_in parent (1 + m + node_count below) (t + token_count below) next in
    elim (front_or_back node x (inside ++ rest) at) [
      | inl same ↦
          subst (λ (x : Node). HasParent parent m t u (branch kind below next) x.number) same
          (below_branch parent m t u m next kind below
          (of_sibling m (1 + m) t u below (subst (λ x. Contains (elements_of x) (token_at u)) (sym same) child)))
      | inr later ↦
          elim (Contains-append_cases inside rest x later) [
            | inl under ↦ below_branch parent m t u x.number next kind below (of_child m (1 + m) t u below x under child)
            | inr behind ↦
                behind_branch parent m t u x.number next kind below
                (of_child parent (1 + m + node_count below) (t + token_count below) u next x behind child)
          ]
    ]

is_computed : (s : Syntax) (t n : ℕ) → IsFirst s (Some t) n → parent_by 0 1 0 t s.children ≡ n
is_computed s t n is =
    let x = node_of s n in
    let among : Contains (nodes_of s) x =
    subst (Contains (nodes_of s)) (sym (node_is s n is.0)) (Contains-get_or (nodes_of s) n (root_of s) (omega (arith, is.0, length-nodes_of s))) in
    let by : HasParent 0 1 0 t s.children x.number =
    elim (front_or_back (root_of s) x (nodes_in 0 1 0 s.children) among) [
      | inl same ↦
          subst (λ (x : Node). HasParent 0 1 0 t s.children x.number) same
          (of_sibling 0 1 0 t s.children (subst (λ x. Contains (elements_of x) (token_at t)) (sym same) is.1))
      | inr below ↦ of_child 0 1 0 t s.children x below is.1
    ] in
    by.is ∙ node_of-number s n is.0

pub one_parent : (s : Syntax) (t n m : ℕ) → IsFirst s (Some t) n → IsFirst s (Some t) m → n ≡ m
one_parent s t n m first second = sym (is_computed s t n first) ∙ is_computed s t m second
