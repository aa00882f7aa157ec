-- The table of which placeholders are receivers, one more node after the other.
use Rattle.std.proofs.Common.{◌≡◌, ℕ, ◌+◌, ◌<◌, ◌≤◌, ◌==◌, ◌||◌, Bool, true, false, List, [], ◌∷◌, ◌++◌, map, length, take, get_or, set, inl, inr, Option, Some, None, refl, sym, ap, ◌∙◌, subst, arith}
use Rattle.std.specs.List.{list_any, position_from}
use Rattle.std.specs.Option.{IfSome, option_and_then, option_map_or}
use Rattle.std.specs.Prelude.{bytes_eq, if◌then◌else◌}
use Rattle.std.proofs.lemmas.Bool.{cases_eq, eq-eqb, ne_eqb}
use Rattle.std.proofs.lemmas.List.{get_or-set_other, get_or-set_same, take_all, take_more}
use Rattle.ssr_syntax_kinds.specs.Kinds.{is_ident, same_kind}
use Rattle.ssr_syntax_kinds.specs.declared.kinds.SyntaxKind.TheVariants as k
use Rattle.ssr_syntax_tree.specs.declared.number.Element.{Element}
use Rattle.ssr_syntax_tree.specs.declared.number.Element.TheVariants as element
use Rattle.ssr_syntax_tree.specs.declared.number.NodeNo.{NodeNo}
use Rattle.ssr_syntax_tree.specs.Places.{HasNode, Node, elements_of, node_of, nodes_of, part_of, root_of}
use Rattle.ssr_syntax_tree.specs.Syntax.{Token, Syntax, node_count}
use Rattle.ssr_syntax_tree.proofs.Shared.{length-nodes_of, node_is, parts_of-elements_of}
use Rattle.ide_ssr_resolved_rule.specs.Placeholders.{only_token, placeholder_at}
use Rattle.ide_ssr_resolved_rule.specs.Receivers.{first_if_node, is_called_on, is_receiver_in, placeholder_called_on, receiver_of}
use Rattle.ide_ssr_resolved_rule.specs.StandIns.{name_at, stand_in_of}
use Rattle.ide_ssr_resolved_rule.proofs.NamePlaces.{found_within}

-- ** The receiver.

pub receiver_there : (s : Syntax) (n : ℕ) (children rest : List Element) (receiver : NodeNo) → HasNode s n → children ≡ elements_of (node_of s n) → children ≡ element.Node receiver ∷ rest
    → Some (node_of s receiver.0) ≡ receiver_of (node_of s n)
receiver_there s n children rest receiver has are first =
    ap (λ es. first_if_node (map (part_of s) es)) (sym first ∙ are) ∙ ap first_if_node (parts_of-elements_of s n has)

-- ** Placeholders have names.

name_within : (names : List (List ℕ)) (token : Token) → IfSome (name_at names token) (λ i. i < length names)
unfolding name_at
name_within names token = elim (is_ident token.kind) as (λ b. IfSome (if b then position_from (λ name. bytes_eq token.text (stand_in_of name)) 0 names else None) (λ i. i < length names)) [
  | true ↦ found_within (λ name. bytes_eq token.text (stand_in_of name)) names
  | false ↦ tt
]

placeholder_within : (names : List (List ℕ)) (node : Node) → IfSome (placeholder_at names node) (λ i. i < length names)
unfolding placeholder_at
placeholder_within names node = elim (only_token node.children) as (λ o. IfSome (option_and_then (name_at names) o) (λ i. i < length names)) [
  | Some token ↦ name_within names token
  | None ↦ tt
]

called_on_within : (names : List (List ℕ)) (node : Node) → IfSome (placeholder_called_on names node) (λ i. i < length names)
called_on_within names node =
    by (same_kind node.kind k.METHOD_CALL_EXPR) (receiver_of node)
  where
    by : (b : Bool) (receiver : Option Node) → IfSome (if b then option_and_then (placeholder_at names) receiver else None) (λ i. i < length names)
    by true (Some receiver) = placeholder_within names receiver
    by true None = tt
    by false receiver = tt

pub called_on_has : (names : List (List ℕ)) (node : Node) (i : ℕ) → Some i ≡ placeholder_called_on names node → i < length names
called_on_has names node i is = subst (λ o. IfSome o (λ i. i < length names)) (sym is) (called_on_within names node)

-- ** One node more.

-- what a table tells by the first so many nodes
abbrev pub TellsUpTo : List (List ℕ) → Syntax → ℕ → List Bool → Type 0
TellsUpTo names s n table = (i : ℕ) → get_or table i false ≡ list_any (is_called_on names i) (take n (nodes_of s))

pub none_up_to : (names : List (List ℕ)) (s : Syntax) (table : List Bool) → ((i : ℕ) → get_or table i false ≡ false) → TellsUpTo names s 0 table
none_up_to names s table none i = none i

any_more : {X : Type 0} (p : X → Bool) (xs : List X) (x : X) → list_any p (xs ++ x ∷ []) ≡ (p x || list_any p xs)
any_more p [] x = refl
any_more p (y ∷ ys) x = ap (λ b. p y || b) (any_more p ys x) ∙ turned (p y) (p x) (list_any p ys)
  where
    turned : (a b c : Bool) → (a || (b || c)) ≡ (b || (a || c))
    turned true true c = refl
    turned true false c = refl
    turned false b c = refl

up_to_more : (names : List (List ℕ)) (s : Syntax) (n i : ℕ) → HasNode s n
    → list_any (is_called_on names i) (take (n + 1) (nodes_of s)) ≡ (is_called_on names i (node_of s n) || list_any (is_called_on names i) (take n (nodes_of s)))
up_to_more names s n i has =
    ap (list_any (is_called_on names i)) (take_more (nodes_of s) n (root_of s) (omega (arith, has, length-nodes_of s)))
    ∙ any_more (is_called_on names i) (take n (nodes_of s)) (get_or (nodes_of s) n (root_of s))
    ∙ ap (λ node. is_called_on names i node || list_any (is_called_on names i) (take n (nodes_of s))) (sym (node_is s n has))

pub called_on_more : (names : List (List ℕ)) (s : Syntax) (n j : ℕ) (table new : List Bool) → HasNode s n → Some j ≡ placeholder_called_on names (node_of s n) → j < length table
    → TellsUpTo names s n table → new ≡ set table j true → TellsUpTo names s (n + 1) new
called_on_more names s n j table new has is lt so_far written i =
    ap (λ xs. get_or xs i false) written
    ∙ elim (cases_eq i j) [
      | inl same ↦
          ap (λ i. get_or (set table j true) i false) same ∙ get_or-set_same table j true false lt
          ∙ sym (ap (λ b. b || list_any (is_called_on names i) (take n (nodes_of s))) (here true (eq-eqb j i (sym same))))
          ∙ sym (up_to_more names s n i has)
      | inr other ↦
          get_or-set_other table j i true false other ∙ so_far i
          ∙ sym (ap (λ b. b || list_any (is_called_on names i) (take n (nodes_of s))) (here false (ne_eqb j i (λ same. other (sym same)))))
          ∙ sym (up_to_more names s n i has)
    ]
  where
    here : (b : Bool) → (j == i) ≡ b → is_called_on names i (node_of s n) ≡ b
    here b e = ap (λ o. option_map_or (λ j. j == i) o false) (sym is) ∙ e

pub called_on_none : (names : List (List ℕ)) (s : Syntax) (n : ℕ) (table new : List Bool) → HasNode s n → None ≡ placeholder_called_on names (node_of s n)
    → TellsUpTo names s n table → new ≡ table → TellsUpTo names s (n + 1) new
called_on_none names s n table new has is so_far same i =
    ap (λ xs. get_or xs i false) same ∙ so_far i
    ∙ sym (ap (λ o. option_map_or (λ j. j == i) o false || list_any (is_called_on names i) (take n (nodes_of s))) (sym is))
    ∙ sym (up_to_more names s n i has)

pub called_on_all : (names : List (List ℕ)) (s : Syntax) (n : ℕ) (table : List Bool) → 1 + node_count s.children ≤ n → TellsUpTo names s n table
    → (i : ℕ) → get_or table i false ≡ is_receiver_in names s i
called_on_all names s n table all so_far i = so_far i ∙ ap (list_any (is_called_on names i)) (take_all n (nodes_of s) (omega (arith, all, length-nodes_of s)))
