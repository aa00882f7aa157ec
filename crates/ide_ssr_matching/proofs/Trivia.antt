-- Nodes that are alike match the same patterns, and bind the same but for where tokens stand.
use Rattle.std.proofs.Common.{◌≡◌, ℕ, zero, suc, ◌+◌, Bool, true, false, cond, List, [], ◌∷◌, map, Option, Some, None, refl, sym, ◌∙◌, ap, arith}
use Rattle.std.specs.Option.{option_and_then, option_map}
use Rattle.std.proofs.lemmas.List.{map-append}
use Rattle.std.proofs.lemmas.Option.{none-some, same_Some}
use Rattle.ssr_syntax_kinds.proofs.Shared.{same_kind-equal}
use Rattle.ssr_syntax_kinds.specs.declared.kinds.SyntaxKind.TheVariants as k
use Rattle.ssr_syntax_kinds.specs.Kinds.{same_kind}
use Rattle.ssr_syntax_tree.specs.Syntax.{Syntax, same_token}
use Rattle.ssr_syntax_tree.specs.Places.{Node, Part, token_part, node_part, node_of, size_of}
use Rattle.ssr_base_trees.specs.Meanings.{Meanings}
use Rattle.ide_ssr_resolved_rule.specs.Placeholders.{placeholder_at}
use Rattle.ide_ssr_resolved_rule.specs.Resolved.{ResolvedRule, meets}
use Rattle.ide_ssr_bindings.specs.declared.bindings.Binding.{Binding}
use Rattle.ide_ssr_bindings.specs.declared.bindings.Held.{Held}
use Rattle.ide_ssr_bindings.specs.declared.bindings.Held.TheVariants as held
use Rattle.ide_ssr_bindings.specs.Found.{node_binding}
use Rattle.ide_ssr_token_trees.specs.Bindings.{joined, tree_bindings}
use Rattle.ide_ssr_token_trees.specs.Numbers.{held_later, bound_later}
use Rattle.ide_ssr_token_trees.proofs.Shared.{bindings_later}
use Rattle.ide_ssr_bindings.specs.declared.receivers.Receiver.{Receiver}
use Rattle.ide_ssr_matching.specs.Bindings.{Binder, pair_by, pairs_by, sides_by, sides_of, other_by, node_by, step, bindings_by, bindings_in}
use Rattle.ide_ssr_matching.specs.Matching.{Matches, Relates}
use Rattle.ide_ssr_bindings.specs.Receivers.{is_node, received}
use Rattle.ide_ssr_matching.specs.Sides.{Sides, kept}
use Rattle.ide_ssr_matching.specs.TokenTrees.{is_token_tree, token_placeholder, tree_by, is_plain}
use Rattle.ide_ssr_matching.specs.Trivia.{stripped_below, stripped_tree, AreToldAlike, held_anywhere, bound_anywhere, BindAlike}
use Rattle.ide_ssr_matching.proofs.Agreement.{bindings_in-Relates, Relates-bindings_in}
use Rattle.ide_ssr_matching.proofs.StrippedNodes.{stripped_node, stripped_part, AreAlike, kinds_alike, numbers_alike, nodes_alike}
use Rattle.ide_ssr_matching.proofs.StrippedSides.{stripped_sides, sides_alike}

-- bindings, if there are any, but for where tokens stand
abbrev anywhere : Option (List Binding) → Option (List Binding)
anywhere bs = option_map (map bound_anywhere) bs

-- ** Token trees.

held_moved : (more : ℕ) (h : Held) → held_anywhere (held_later more h) ≡ held_anywhere h
held_moved more (held.Node node) = refl
held_moved more (held.Tokens run) = refl

bound_moved : (more : ℕ) (bs : List Binding) → map bound_anywhere (map (bound_later more) bs) ≡ map bound_anywhere bs
bound_moved more [] = refl
bound_moved more (b ∷ bs) =
    ap (λ h. record b { held = h } ∷ map bound_anywhere (map (bound_later more) bs)) (held_moved more b.held)
    ∙ ap (λ others. bound_anywhere b ∷ others) (bound_moved more bs)

moved_anywhere : (more : ℕ) (bs : Option (List Binding)) → anywhere (option_map (map (bound_later more)) bs) ≡ anywhere bs
moved_anywhere more None = refl
moved_anywhere more (Some bs) = ap Some (bound_moved more bs)

-- wherever the tokens of the code begin
from_zero : (at : ℕ → Option ℕ) (p c : Node) → anywhere (tree_bindings at p c) ≡ anywhere (tree_bindings at p (record c { first = 0 }))
from_zero at p c =
    let first : c.first ≡ c.first + 0 = omega arith in
    ap (λ n. anywhere (tree_bindings at p (record c { first = n }))) first
    ∙ ap anywhere (bindings_later c.first at p (record c { first = 0 }))
    ∙ moved_anywhere c.first (tree_bindings at p (record c { first = 0 }))

trees_alike : (at : ℕ → Option ℕ) (p c d : Node) → AreAlike c d → is_token_tree d ≡ true → anywhere (tree_bindings at p c) ≡ anywhere (tree_bindings at p d)
trees_alike at p c d alike is =
    from_zero at p c
    ∙ ap (λ kind. anywhere (tree_bindings at p (record c { first = 0; children = stripped_below kind c.children }))) (sym tree ∙ sym (kinds_alike c d alike))
    ∙ ap (λ node. anywhere (tree_bindings at p node)) alike
    ∙ ap (λ kind. anywhere (tree_bindings at p (record d { first = 0; children = stripped_below kind d.children }))) tree
    ∙ sym (from_zero at p d)
  where
    tree : d.kind ≡ k.TOKEN_TREE
    tree = same_kind-equal d.kind k.TOKEN_TREE is

-- ** What is bound.

joined_anywhere : (x y : Option (List Binding)) → anywhere (joined x y) ≡ joined (anywhere x) (anywhere y)
joined_anywhere None y = refl
joined_anywhere (Some bs) None = refl
joined_anywhere (Some bs) (Some rest) = ap Some (map-append bound_anywhere bs rest)

node_anywhere : (n : ℕ) (h : Held) → is_node n (held_anywhere h) ≡ is_node n h
node_anywhere n (held.Node node) = refl
node_anywhere n (held.Tokens run) = refl

received_anywhere : (r : Receiver) (b : Binding) → bound_anywhere (received r b) ≡ received r (bound_anywhere b)
received_anywhere r b = by (is_node r.node.0 b.held) ∙ ap (λ is. other is) (sym (node_anywhere r.node.0 b.held))
  where
    other : Bool → Binding
    other is = cond is (record (bound_anywhere b) { deref_count = r.deref_count; self_kind = r.self_kind }) (bound_anywhere b)

    by : (is : Bool) → bound_anywhere (cond is (record b { deref_count = r.deref_count; self_kind = r.self_kind }) b) ≡ other is
    by true = refl
    by false = refl

kept_each : (r : Receiver) (bs : List Binding) → map bound_anywhere (map (received r) bs) ≡ map (received r) (map bound_anywhere bs)
kept_each r [] = refl
kept_each r (b ∷ bs) =
    ap (λ first. first ∷ map bound_anywhere (map (received r) bs)) (received_anywhere r b)
    ∙ ap (λ rest. received r (bound_anywhere b) ∷ rest) (kept_each r bs)

kept_anywhere : (receiver : Option Receiver) (bs : Option (List Binding))
    → anywhere (option_map (kept receiver) bs) ≡ option_map (kept receiver) (anywhere bs)
kept_anywhere receiver None = refl
kept_anywhere None (Some bs) = refl
kept_anywhere (Some r) (Some bs) = ap Some (kept_each r bs)

-- ** Parts against parts.

module _ (inner other : Binder) (same : (p c d : Node) → AreAlike c d → anywhere (inner p c) ≡ anywhere (other p d)) where
  pair_alike : (p c d : Part) → stripped_part c ≡ stripped_part d → anywhere (pair_by inner p c) ≡ anywhere (pair_by other p d)
  pair_alike (token_part t token) (token_part u c) (token_part v d) alike =
      let e : token_part 0 c ≡ token_part 0 d = alike in
      let equal : c ≡ d = cc in
      ap (λ c. anywhere (cond (same_token token c) (Some []) None)) equal
  pair_alike (token_part t token) (token_part u c) (node_part d) alike = let e : token_part 0 c ≡ node_part (stripped_node d) = alike in cc
  pair_alike (token_part t token) (node_part c) (token_part v d) alike = let e : node_part (stripped_node c) ≡ token_part 0 d = alike in cc
  pair_alike (token_part t token) (node_part c) (node_part d) alike = refl
  pair_alike (node_part p) (token_part u c) (token_part v d) alike = refl
  pair_alike (node_part p) (token_part u c) (node_part d) alike = let e : token_part 0 c ≡ node_part (stripped_node d) = alike in cc
  pair_alike (node_part p) (node_part c) (token_part v d) alike = let e : node_part (stripped_node c) ≡ token_part 0 d = alike in cc
  pair_alike (node_part p) (node_part c) (node_part d) alike =
      let e : node_part (stripped_node c) ≡ node_part (stripped_node d) = alike in
      let equal : stripped_node c ≡ stripped_node d = cc in
      same p c d equal

  pairs_alike : (ps cs ds : List Part) → map stripped_part cs ≡ map stripped_part ds → anywhere (pairs_by inner ps cs) ≡ anywhere (pairs_by other ps ds)
  pairs_alike ps [] (d ∷ ds) alike = let e : [] ≡ stripped_part d ∷ map stripped_part ds = alike in cc
  pairs_alike ps (c ∷ cs) [] alike = let e : stripped_part c ∷ map stripped_part cs ≡ [] = alike in cc
  pairs_alike [] [] [] alike = refl
  pairs_alike [] (c ∷ cs) (d ∷ ds) alike = refl
  pairs_alike (p ∷ ps) [] [] alike = refl
  pairs_alike (p ∷ ps) (c ∷ cs) (d ∷ ds) alike =
      let e : stripped_part c ∷ map stripped_part cs ≡ stripped_part d ∷ map stripped_part ds = alike in
      let first : stripped_part c ≡ stripped_part d = cc in
      let rest : map stripped_part cs ≡ map stripped_part ds = cc in
      joined_anywhere (pair_by inner p c) (pairs_by inner ps cs)
      ∙ ap (λ x. joined x (anywhere (pairs_by inner ps cs))) (pair_alike p c d first)
      ∙ ap (joined (anywhere (pair_by other p d))) (pairs_alike ps cs ds rest)
      ∙ sym (joined_anywhere (pair_by other p d) (pairs_by other ps ds))

  by_sides : (s t : Sides) → stripped_sides s ≡ stripped_sides t → anywhere (sides_by inner s) ≡ anywhere (sides_by other t)
  by_sides s t alike =
      kept_anywhere s.receiver (pairs_by inner s.pattern s.code)
      ∙ ap (option_map (kept s.receiver))
      (pairs_alike s.pattern s.code t.code (ap (λ (sides : Sides). sides.code) alike)
      ∙ ap (λ pattern. anywhere (pairs_by other pattern t.code)) (ap (λ (sides : Sides). sides.pattern) alike))
      ∙ ap (λ receiver. option_map (kept receiver) (anywhere (pairs_by other t.pattern t.code))) (ap (λ (sides : Sides). sides.receiver) alike)
      ∙ sym (kept_anywhere t.receiver (pairs_by other t.pattern t.code))

  either_sides : (o p : Option Sides) → option_map stripped_sides o ≡ option_map stripped_sides p
      → anywhere (option_and_then (sides_by inner) o) ≡ anywhere (option_and_then (sides_by other) p)
  either_sides None None alike = refl
  either_sides None (Some t) alike = absurd (none-some (stripped_sides t) alike)
  either_sides (Some s) None alike = absurd (none-some (stripped_sides s) (sym alike))
  either_sides (Some s) (Some t) alike = by_sides s t (same_Some (stripped_sides s) (stripped_sides t) alike)

-- ** Nodes.

module _ (names : Bool) (rule : ResolvedRule) (ms : Meanings) (tree : ℕ) (other_ms : Meanings) (other_tree : ℕ) (told : AreToldAlike ms tree other_ms other_tree) where
  tokens_alike : (p c d : Node) → AreAlike c d → anywhere (tree_by rule p c) ≡ anywhere (tree_by rule p d)
  tokens_alike p c d alike =
      ap (λ kind. anywhere (cond (same_kind kind k.TOKEN_TREE) (tree_bindings (token_placeholder rule) p c) None)) (kinds_alike c d alike)
      ∙ by (is_token_tree d) refl
    where
      by : (b : Bool) → is_token_tree d ≡ b
          → anywhere (cond b (tree_bindings (token_placeholder rule) p c) None) ≡ anywhere (cond b (tree_bindings (token_placeholder rule) p d) None)
      by true is = trees_alike (token_placeholder rule) p c d alike is
      by false is = refl

  step_alike : (inner other : Binder) → ((p c d : Node) → AreAlike c d → anywhere (inner p c) ≡ anywhere (other p d)) → (p c d : Node) → AreAlike c d
      → anywhere (step names ms tree rule inner p c) ≡ anywhere (step names other_ms other_tree rule other p d)
  step_alike inner other same p c d alike = by (placeholder_at rule.names p) (is_token_tree p) (is_plain rule p)
    where
      by : (o : Option ℕ) (is_tree_node plain : Bool)
          → anywhere (node_by rule o (other_by names ms tree rule inner is_tree_node plain p c) c)
          ≡ anywhere (node_by rule o (other_by names other_ms other_tree rule other is_tree_node plain p d) d)
      by (Some i) is_tree_node plain =
          ap (λ kind. anywhere (cond (meets rule i kind) (Some (node_binding i c.number ∷ [])) None)) (kinds_alike c d alike)
          ∙ ap (λ n. anywhere (cond (meets rule i d.kind) (Some (node_binding i n ∷ [])) None)) (numbers_alike c d alike)
      by None true plain = tokens_alike p c d alike
      by None false true =
          either_sides inner other same (sides_of names ms tree rule p c) (sides_of names other_ms other_tree rule p d)
          (sides_alike names rule ms tree other_ms other_tree told p c d alike)
      by None false false = refl

  steps_alike : (steps : ℕ) (p c d : Node) → AreAlike c d
      → anywhere (bindings_by names ms tree rule steps p c) ≡ anywhere (bindings_by names other_ms other_tree rule steps p d)
  steps_alike zero p c d alike = refl
  steps_alike (suc steps) p c d alike =
      step_alike (bindings_by names ms tree rule steps) (bindings_by names other_ms other_tree rule steps) (steps_alike steps) p c d alike

  bindings_alike : (p c d : Node) → AreAlike c d → anywhere (bindings_in names ms tree rule p c) ≡ anywhere (bindings_in names other_ms other_tree rule p d)
  unfolding bindings_in
  bindings_alike p c d alike = steps_alike (size_of p) p c d alike

  matches_alike : (p c d : Node) (bs : List Binding) → AreAlike c d → Relates names ms tree rule p c bs
      → (others : List Binding) × Relates names other_ms other_tree rule p d others × BindAlike bs others
  matches_alike p c d bs alike matches =
      by (bindings_in names other_ms other_tree rule p d) refl
      (ap anywhere (sym (Relates-bindings_in names ms tree rule p c bs matches)) ∙ bindings_alike p c d alike)
    where
      by : (o : Option (List Binding)) → bindings_in names other_ms other_tree rule p d ≡ o → Some (map bound_anywhere bs) ≡ anywhere o
          → (others : List Binding) × Relates names other_ms other_tree rule p d others × BindAlike bs others
      by None is same = absurd (none-some (map bound_anywhere bs) (sym same))
      by (Some others) is same =
          (others, bindings_in-Relates names other_ms other_tree rule p d others is, same_Some (map bound_anywhere bs) (map bound_anywhere others) same)

trivia_related : (names : Bool) (ms : Meanings) (tree : ℕ) (other_ms : Meanings) (other_tree : ℕ) (rule : ResolvedRule) (code other : Syntax) (p : Node) (n : ℕ) (bs : List Binding)
    → stripped_tree code ≡ stripped_tree other → AreToldAlike ms tree other_ms other_tree → Relates names ms tree rule p (node_of code n) bs
    → (others : List Binding) × Relates names other_ms other_tree rule p (node_of other n) others × BindAlike bs others
trivia_related names ms tree other_ms other_tree rule code other p n bs same told matches =
    matches_alike names rule ms tree other_ms other_tree told p (node_of code n) (node_of other n) bs (nodes_alike code other same n) matches

pub trivia_left_out : (ms : Meanings) (tree : ℕ) (other_ms : Meanings) (other_tree : ℕ) (rule : ResolvedRule) (code other : Syntax) (p : Node) (n : ℕ) (bs : List Binding)
    → stripped_tree code ≡ stripped_tree other → AreToldAlike ms tree other_ms other_tree → Matches ms tree rule p (node_of code n) bs
    → (others : List Binding) × Matches other_ms other_tree rule p (node_of other n) others × BindAlike bs others
trivia_left_out = trivia_related true
