-- What a match binds are tokens of its node, and no two share one.
use Rattle.std.proofs.Common.{◌≡◌, ℕ, Bool, true, false, List, [], ◌∷◌, ◌++◌, map, All, AllPairs, Option, Some, None, inl, refl, sym, ap, subst, arith}
use Rattle.std.specs.Prelude.{if◌then◌else◌}
use Rattle.std.proofs.lemmas.List.Elements.{All-nil, All-cons, All-head, All-tail, All-append, All-map, All-weaker}
use Rattle.std.proofs.lemmas.List.Kept.{AllPairs-cons}
use Rattle.ssr_syntax_tree.specs.Syntax.{Syntax}
use Rattle.ssr_syntax_tree.specs.Places.{HasNode, Node, Part, token_part, node_part, node_of, parts_of}
use Rattle.ssr_syntax_tree.proofs.Lists.{pairs_none, pairs_head, pairs_tail}
use Rattle.ssr_syntax_tree.proofs.Shared.{IsOf, node_of-number}
use Rattle.ssr_base_trees.specs.Laws.{IsAmong}
use Rattle.ssr_base_trees.specs.Meanings.{Meanings}
use Rattle.ssr_base_trees.specs.Workspace.{run_of}
use Rattle.ide_ssr_bindings.specs.declared.bindings.Binding.{Binding}
use Rattle.ide_ssr_bindings.specs.Apart.{tokens_held, IsHeldIn, AreApart}
use Rattle.ide_ssr_bindings.specs.Found.{node_binding}
use Rattle.ide_ssr_resolved_rule.specs.Resolved.{ResolvedRule}
use Rattle.ide_ssr_matching.specs.Children.{bare}
use Rattle.ide_ssr_token_trees.specs.TokenTrees.{TreesMatch}
use Rattle.ide_ssr_token_trees.proofs.Shared.{trees_held, trees_behind}
use Rattle.ide_ssr_matching.specs.TokenTrees.{token_placeholder}
use Rattle.ide_ssr_matching.specs.UsedPaths.{arguments_of}
use Rattle.ide_ssr_bindings.specs.declared.receivers.Receiver.{Receiver}
use Rattle.ide_ssr_bindings.specs.Receivers.{is_node, received}
use Rattle.ide_ssr_matching.specs.Sides.{kept}
use Rattle.ide_ssr_matching.specs.Matching.{Matches, Relates, bound, token_trees, method, used, alike, PairsRelate, end, tokens, nodes, named}
use Rattle.ide_ssr_matching.specs.Calls.{child_nodes}
use Rattle.ide_ssr_matching.proofs.CallNodes.{method_sides_are}
use Rattle.ide_ssr_matching.proofs.NamedNodes.{named_nodes_are}
use Rattle.ide_ssr_matching.proofs.Spread.{RunsApart, narrower, wider, IsPartOf, IsAmongNode, PartsApart, counted_are}

pairs_append : {X : Type 0} (R : X → X → Type 0) (xs ys : List X) → AllPairs R xs → AllPairs R ys → All (λ x. All (R x) ys) xs → AllPairs R (xs ++ ys)
pairs_append R [] ys first second across = second
pairs_append R (x ∷ xs) ys first second across =
    AllPairs-cons R x (xs ++ ys) (All-append (R x) xs ys (pairs_head R x xs first) (All-head (λ x. All (R x) ys) x xs across))
    (pairs_append R xs ys (pairs_tail R x xs first) second (All-tail (λ x. All (R x) ys) x xs across))

received_is : (r : Receiver) (b : Binding) → (received r b).held ≡ b.held
received_is r b = by (is_node r.node.0 b.held)
  where
    by : (test : Bool) → (if test then record b { deref_count = r.deref_count; self_kind = r.self_kind } else b).held ≡ b.held
    by true = refl
    by false = refl

module _ (code : Syntax) where
  received_apart : (r : Receiver) (bs : List Binding) → AllPairs (AreApart code) bs → AllPairs (AreApart code) (map (received r) bs)
  received_apart r [] apart = pairs_none (AreApart code)
  received_apart r (b ∷ bs) apart =
      AllPairs-cons (AreApart code) (received r b) (map (received r) bs)
      (All-map (AreApart code (received r b)) (received r) bs
      (All-weaker (AreApart code b) (λ d. AreApart code (received r b) (received r d))
      (λ d clear.
      subst (λ h. RunsApart (tokens_held code h) (tokens_held code (received r d).held)) (sym (received_is r b))
      (subst (λ h. RunsApart (tokens_held code b.held) (tokens_held code h)) (sym (received_is r d)) clear))
      bs (pairs_head (AreApart code) b bs apart)))
      (received_apart r bs (pairs_tail (AreApart code) b bs apart))

  -- what is held shares no token with a node
  abbrev IsBeside : Node → Binding → Type 0
  IsBeside x b = RunsApart (run_of x) (tokens_held code b.held)

  record AreHeld (c : Node) (bs : List Binding) : Type 0 where
    each : All (IsHeldIn code c) bs
    apart : AllPairs (AreApart code) bs

  -- what is held in parts, and shares no token with whatever no part shares one with
  record AreHeldIn (c : Node) (parts : List Part) (bs : List Binding) : Type 0 where
    each : All (IsHeldIn code c) bs
    apart : AllPairs (AreApart code) bs
    beside : (x : Node) → All (PartsApart (node_part x)) parts → All (IsBeside x) bs

  itself : (c : Node) (i : ℕ) → IsOf code c → AreHeld c (node_binding i c.number ∷ [])
  itself c i is = record {
    each =
        All-cons (IsHeldIn code c) (node_binding i c.number) []
        (record { has = is.0; among = subst (λ (x : Node). IsAmong (run_of x) (run_of c)) (sym is.1) (omega arith, omega arith) })
        (All-nil (IsHeldIn code c));
    apart = AllPairs-cons (AreApart code) (node_binding i c.number) [] (All-nil (AreApart code (node_binding i c.number))) (pairs_none (AreApart code));
  }

  -- what is held in a node and in the parts behind it
  held_both : (c q : Node) (parts : List Part) (found rest : List Binding) → IsAmongNode c (node_part q) → All (PartsApart (node_part q)) parts
      → AreHeld q found → AreHeldIn c parts rest → AreHeldIn c (node_part q ∷ parts) (found ++ rest)
  held_both c q parts found rest within ahead here behind = record {
    each =
        All-append (IsHeldIn code c) found rest
        (All-weaker (IsHeldIn code q) (IsHeldIn code c)
        (λ b held. record { has = held.has; among = wider (run_of q) (run_of c) (tokens_held code b.held) held.among within }) found here.each)
        behind.each;
    apart =
        pairs_append (AreApart code) found rest here.apart behind.apart
        (All-weaker (IsHeldIn code q) (λ b. All (AreApart code b) rest)
        (λ b held. All-weaker (IsBeside q) (AreApart code b)
        (λ d beside. narrower (run_of q) (tokens_held code d.held) (tokens_held code b.held) (tokens_held code d.held) beside held.among (omega arith, omega arith))
        rest (behind.beside q ahead))
        found here.each);
    beside = λ x clear.
        All-append (IsBeside x) found rest
        (All-weaker (IsHeldIn code q) (IsBeside x)
        (λ b held. narrower (run_of x) (run_of q) (run_of x) (tokens_held code b.held)
        (All-head (PartsApart (node_part x)) (node_part q) parts clear) (omega arith, omega arith) held.among)
        found here.each)
        (behind.beside x (All-tail (PartsApart (node_part x)) (node_part q) parts clear));
  }

  in_parts : (c : Node) (parts : List Part) (bs : List Binding) → AreHeldIn c parts bs → AreHeld c bs
  in_parts c parts bs held = record { each = held.each; apart = held.apart }

  -- how a receiver is taken doesn't change what is held
  received_held : (c : Node) (r : Receiver) (b : Binding) → IsHeldIn code c b → IsHeldIn code c (received r b)
  received_held c r b held = by (is_node r.node.0 b.held)
    where
      by : (test : Bool) → IsHeldIn code c (if test then record b { deref_count = r.deref_count; self_kind = r.self_kind } else b)
      by true = record { has = held.has; among = held.among }
      by false = held

  kept_held : (c : Node) (o : Option Receiver) (bs : List Binding) → AreHeld c bs → AreHeld c (kept o bs)
  kept_held c None bs held = held
  kept_held c (Some r) bs held = record {
    each = All-map (IsHeldIn code c) (received r) bs (All-weaker (IsHeldIn code c) (λ b. IsHeldIn code c (received r b)) (received_held c r) bs held.each);
    apart = received_apart r bs held.apart;
  }

  module _ (names : Bool) (m : Meanings) (tree : ℕ) (rule : ResolvedRule) where
    mutual
      matches_held : (p c : Node) (bs : List Binding) → Relates names m tree rule p c bs → IsOf code c → AreHeld c bs
      matches_held _ _ _ (bound p c i at met) is = itself c i is
      matches_held _ _ _ (token_trees p c bs none tree_node code_tree found) is =
          let there = subst (λ node. TreesMatch (token_placeholder rule) p node bs) (sym is.1) found in
          let at = token_placeholder rule in
          record {
            each = subst (λ node. All (IsHeldIn code node) bs) is.1 (trees_held at p code c.number bs is.0 there);
            apart = λ i j d before within. inl (trees_behind at p code c.number bs is.0 there i j d before within);
          }
      matches_held _ _ _ (method p c call sides bs none qualified is_method found pairs) is =
          let are = method_sides_are code m tree rule call p c sides is found in
          kept_held c sides.receiver bs
          (in_parts c sides.code bs (pairs_held c sides.pattern sides.code bs pairs are.each are.among are.apart))
      matches_held _ _ _ (used p c r bs none unmet kinds stands told arguments) is =
          let are = counted_are code (Some r) c is in
          in_parts c (bare (arguments_of c)) bs
          (pairs_held c (bare (arguments_of p)) (bare (arguments_of c)) bs arguments are.each are.among are.apart)
      matches_held _ _ _ (named p c found bs none unmet kinds unused can by_names found_is pairs) is =
          let are = named_nodes_are code p c found is found_is in
          in_parts c (map node_part found) bs
          (pairs_held c (map node_part (child_nodes p)) (map node_part found) bs pairs are.each are.among are.apart)
      matches_held _ _ _ (alike p c bs none unmet kinds unused can unnamed children) is =
          let are = counted_are code None c is in
          in_parts c (bare (parts_of c)) bs
          (pairs_held c (bare (parts_of p)) (bare (parts_of c)) bs children are.each are.among are.apart)

      pairs_held : (c : Node) (ps cs : List Part) (bs : List Binding) → PairsRelate names m tree rule ps cs bs
          → All (IsPartOf code) cs → All (IsAmongNode c) cs → AllPairs PartsApart cs → AreHeldIn c cs bs
      pairs_held c _ _ _ end each among apart =
          record { each = All-nil (IsHeldIn code c); apart = pairs_none (AreApart code); beside = λ x clear. All-nil (IsBeside x) }
      pairs_held c _ _ _ (tokens t u p d ps cs bs kinds texts behind) each among apart =
          let rest =
          pairs_held c ps cs bs behind (All-tail (IsPartOf code) (token_part u d) cs each) (All-tail (IsAmongNode c) (token_part u d) cs among)
          (pairs_tail PartsApart (token_part u d) cs apart) in
          record {
            each = rest.each;
            apart = rest.apart;
            beside = λ x clear. rest.beside x (All-tail (PartsApart (node_part x)) (token_part u d) cs clear);
          }
      pairs_held c _ _ _ (nodes p q ps cs found rest here behind) each among apart =
          held_both c q cs found rest (All-head (IsAmongNode c) (node_part q) cs among) (pairs_head PartsApart (node_part q) cs apart)
          (matches_held p q found here (All-head (IsPartOf code) (node_part q) cs each))
          (pairs_held c ps cs rest behind (All-tail (IsPartOf code) (node_part q) cs each) (All-tail (IsAmongNode c) (node_part q) cs among)
          (pairs_tail PartsApart (node_part q) cs apart))

    held_there : (p : Node) (n : ℕ) (bs : List Binding) → HasNode code n → Relates names m tree rule p (node_of code n) bs → AreHeld (node_of code n) bs
    held_there p n bs has matches =
        let number = node_of-number code n has in
        matches_held p (node_of code n) bs matches (subst (HasNode code) (sym number) has, ap (node_of code) number)

    pub related_in : (p : Node) (n : ℕ) (bs : List Binding) → HasNode code n → Relates names m tree rule p (node_of code n) bs
        → All (IsHeldIn code (node_of code n)) bs
    related_in p n bs has matches = (held_there p n bs has matches).each

    pub related_apart : (p : Node) (n : ℕ) (bs : List Binding) → HasNode code n → Relates names m tree rule p (node_of code n) bs
        → AllPairs (AreApart code) bs
    related_apart p n bs has matches = (held_there p n bs has matches).apart

pub held_in : (code : Syntax) (m : Meanings) (tree : ℕ) (rule : ResolvedRule) (p : Node) (n : ℕ) (bs : List Binding) → HasNode code n
    → Matches m tree rule p (node_of code n) bs → All (IsHeldIn code (node_of code n)) bs
held_in code = related_in code true

pub held_apart : (code : Syntax) (m : Meanings) (tree : ℕ) (rule : ResolvedRule) (p : Node) (n : ℕ) (bs : List Binding) → HasNode code n
    → Matches m tree rule p (node_of code n) bs → AllPairs (AreApart code) bs
held_apart code = related_apart code true
