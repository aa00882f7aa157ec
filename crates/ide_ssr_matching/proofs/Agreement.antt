-- The relation and the function of matching agree.
use Rattle.std.proofs.Common.{◌≡◌, ℕ, zero, suc, ◌<◌, ◌≤◌, Bool, true, false, ◌&&◌, cond, List, [], ◌∷◌, ◌++◌, map, All, Option, Some, None, refl, sym, ◌∙◌, ap, subst, arith}
use Rattle.std.specs.Option.{is_some, option_map}
use Rattle.std.specs.Prelude.{if◌then◌else◌}
use Rattle.std.specs.Str.{bytes_eq}
use Rattle.std.proofs.lemmas.Bool.{and_from, and_parts}
use Rattle.std.proofs.lemmas.List.Elements.{All-head, All-tail, All-weaker}
use Rattle.std.proofs.lemmas.Option.{none-some, same_Some}
use Rattle.std.proofs.lemmas.Slice.Eq.{bytes_eq-Decides}
use Rattle.ssr_syntax_kinds.proofs.Shared.{same_kind-equal, equal-same_kind}
use Rattle.ssr_syntax_kinds.specs.declared.kinds.SyntaxKind.TheVariants as k
use Rattle.ssr_syntax_kinds.specs.Kinds.{same_kind}
use Rattle.ssr_syntax_tree.specs.Syntax.{Token}
use Rattle.ssr_syntax_tree.specs.Places.{Node, Part, token_part, node_part, parts_of, size_of}
use Rattle.ssr_base_trees.specs.declared.semantics.Res.{Res}
use Rattle.ssr_base_trees.specs.Meanings.{Meanings}
use Rattle.ide_ssr_resolved_rule.specs.declared.qualified_calls.QualifiedCall.{QualifiedCall}
use Rattle.ide_ssr_resolved_rule.specs.Placeholders.{placeholder_at}
use Rattle.ide_ssr_resolved_rule.specs.Resolved.{ResolvedRule, meets}
use Rattle.ide_ssr_bindings.specs.declared.bindings.Binding.{Binding}
use Rattle.ide_ssr_bindings.specs.Found.{node_binding}
use Rattle.ide_ssr_matching.specs.Children.{bare}
use Rattle.ide_ssr_token_trees.specs.Bindings.{tree_bindings, joined}
use Rattle.ide_ssr_token_trees.proofs.Shared.{tree_bindings-TreesMatch, TreesMatch-tree_bindings}
use Rattle.ide_ssr_matching.specs.TokenTrees.{is_token_tree, token_placeholder, is_plain, is_by_parts}
use Rattle.ide_ssr_matching.specs.UsedPaths.{arguments_of, pattern_res, code_res}
use Rattle.ide_ssr_matching.specs.Matching.{Matches, Relates, bound, token_trees, method, used, alike, PairsRelate, end, tokens, nodes, named}
use Rattle.ide_ssr_matching.specs.Bindings.{pairs_by, placeholder_by, counted_sides, can_match, like_sides, sides_in, sides_of, sides_by, bindings_in, bindings_of, like_pairs}
use Rattle.ide_ssr_matching.specs.Calls.{call_of, meets_method, method_sides, child_nodes}
use Rattle.ide_ssr_matching.specs.Records.{is_named, named_nodes, named_pairs}
use Rattle.ide_ssr_matching.specs.Sides.{Sides, kept}
use Rattle.ide_ssr_matching.proofs.Pairs.{bindings-placeholder, placeholder-met, bindings-trees, bindings-spoiled, bindings-sides, by_parts, like-tested}
use Rattle.ide_ssr_matching.proofs.Same.{stands_if-told, told-stands_if}
use Rattle.ide_ssr_matching.proofs.Steps.{IsSmaller, sides_smaller}

module _ (names : Bool) (ms : Meanings) (tree : ℕ) (rule : ResolvedRule) where
  abbrev NodeAgrees : Node → Type 0
  NodeAgrees p = (c : Node) (bs : List Binding) → bindings_in names ms tree rule p c ≡ Some bs → Relates names ms tree rule p c bs

  abbrev PartsAgree : List Part → Type 0
  PartsAgree ps = (cs : List Part) (bs : List Binding) → pairs_by (bindings_in names ms tree rule) ps cs ≡ Some bs → PairsRelate names ms tree rule ps cs bs

  -- ** Parts, whose nodes are known to agree.

  abbrev PartAgrees : Part → Type 0
  PartAgrees (token_part t token) = Unit {0}
  PartAgrees (node_part node) = NodeAgrees node

  -- a token of the pattern before parts that agree
  token_agrees : (t : ℕ) (p : Token) (ps : List Part) → PartsAgree ps → PartsAgree (token_part t p ∷ ps)
  token_agrees t p ps behind [] bs h = absurd (none-some bs h)
  token_agrees t p ps behind (node_part c ∷ cs) bs h = absurd (none-some bs h)
  token_agrees t p ps behind (token_part u c ∷ cs) bs h =
      by_test (same_kind p.kind c.kind && bytes_eq p.text c.text) refl (pairs_by (bindings_in names ms tree rule) ps cs) refl h
    where
      by_test : (b : Bool) → (same_kind p.kind c.kind && bytes_eq p.text c.text) ≡ b → (o : Option (List Binding))
          → pairs_by (bindings_in names ms tree rule) ps cs ≡ o
          → joined (cond b (Some []) None) o ≡ Some bs → PairsRelate names ms tree rule (token_part t p ∷ ps) (token_part u c ∷ cs) bs
      by_test true same None is g = absurd (none-some bs g)
      by_test true same (Some rest) is g =
          let e = and_parts (same_kind p.kind c.kind) (bytes_eq p.text c.text) same in
          tokens t u p c ps cs bs (same_kind-equal p.kind c.kind e.0) ((bytes_eq-Decides p.text c.text).0 e.1) (behind cs bs (is ∙ g))
      by_test false same o is g = absurd (none-some bs g)

  -- likewise a node of the pattern
  node_before_agrees : (p : Node) (ps : List Part) → NodeAgrees p → PartsAgree ps → PartsAgree (node_part p ∷ ps)
  node_before_agrees p ps here behind [] bs h = absurd (none-some bs h)
  node_before_agrees p ps here behind (token_part u c ∷ cs) bs h = absurd (none-some bs h)
  node_before_agrees p ps here behind (node_part c ∷ cs) bs h =
      by_both (bindings_in names ms tree rule p c) refl (pairs_by (bindings_in names ms tree rule) ps cs) refl h
    where
      by_both : (o : Option (List Binding)) → bindings_in names ms tree rule p c ≡ o → (r : Option (List Binding))
          → pairs_by (bindings_in names ms tree rule) ps cs ≡ r
          → joined o r ≡ Some bs → PairsRelate names ms tree rule (node_part p ∷ ps) (node_part c ∷ cs) bs
      by_both None is r are g = absurd (none-some bs g)
      by_both (Some found) is None are g = absurd (none-some bs g)
      by_both (Some found) is (Some rest) are g =
          subst (PairsRelate names ms tree rule (node_part p ∷ ps) (node_part c ∷ cs)) (same_Some (found ++ rest) bs g)
          (nodes p c ps cs found rest (here c found is) (behind cs rest are))

  parts_agree : (ps : List Part) → All PartAgrees ps → PartsAgree ps
  parts_agree [] all [] bs h = subst (PairsRelate names ms tree rule [] []) (same_Some [] bs h) end
  parts_agree [] all (c ∷ cs) bs h = absurd (none-some bs h)
  parts_agree (token_part t token ∷ ps) all cs bs h =
      token_agrees t token ps (parts_agree ps (All-tail PartAgrees (token_part t token) ps all)) cs bs h
  parts_agree (node_part p ∷ ps) all cs bs h =
      node_before_agrees p ps (All-head PartAgrees (node_part p) ps all) (parts_agree ps (All-tail PartAgrees (node_part p) ps all)) cs bs h

  -- ** Nodes, where smaller ones are known to agree.

  placeholder_agrees : (p c : Node) (i : ℕ) (bs : List Binding) → placeholder_at rule.names p ≡ Some i → placeholder_by rule i c ≡ Some bs
      → Relates names ms tree rule p c bs
  placeholder_agrees p c i bs is binds = by (meets rule i c.kind) refl binds
    where
      by : (b : Bool) → meets rule i c.kind ≡ b
          → cond b (Some (node_binding i c.number ∷ [])) None ≡ Some bs → Relates names ms tree rule p c bs
      by true met binds =
          subst (Relates names ms tree rule p c) (same_Some (node_binding i c.number ∷ []) bs binds) (bound p c i is met)
      by false unmet binds = absurd (none-some bs binds)

  -- a node of the kind that can match
  pairs_match : (p c : Node) (sides : Sides) (bs : List Binding) (o : Option Res) → is_by_parts rule p ≡ true → meets_method rule p c ≡ false
      → p.kind ≡ c.kind → pattern_res rule p ≡ o → can_match names ms tree rule o p c ≡ true → like_pairs names ms tree rule o p c ≡ Some sides
      → PairsRelate names ms tree rule sides.pattern sides.code bs → Relates names ms tree rule p c (kept sides.receiver bs)
  pairs_match p c sides bs (Some r) none unmet kinds is can same pairs =
      let equal = same_Some (counted_sides (Some r) p c) sides same in
      subst (λ (s : Sides). Relates names ms tree rule p c (kept s.receiver bs)) equal
      (used p c r bs none unmet kinds is (stands_if-told names r (code_res ms tree c) can)
      (subst (λ (s : Sides). PairsRelate names ms tree rule s.pattern s.code bs) (sym equal) pairs))
  pairs_match p c sides bs None none unmet kinds is can same pairs = by (is_named rule p c) refl same
    where
      by_nodes : (o : Option (List Node)) → named_nodes p c ≡ o → is_named rule p c ≡ true → option_map (named_pairs p) o ≡ Some sides
          → Relates names ms tree rule p c (kept sides.receiver bs)
      by_nodes None found_is by_names same = absurd (none-some sides same)
      by_nodes (Some found) found_is by_names same =
          let equal = same_Some (named_pairs p found) sides same in
          subst (λ (s : Sides). Relates names ms tree rule p c (kept s.receiver bs)) equal
          (named p c found bs none unmet kinds is can by_names found_is
          (subst (λ (s : Sides). PairsRelate names ms tree rule s.pattern s.code bs) (sym equal) pairs))

      by : (b : Bool) → is_named rule p c ≡ b
          → ◌≡◌ {A = Option Sides} (cond b (option_map (named_pairs p) (named_nodes p c)) (Some (counted_sides None p c))) (Some sides)
          → Relates names ms tree rule p c (kept sides.receiver bs)
      by true by_names same = by_nodes (named_nodes p c) refl by_names same
      by false unnamed same =
          let equal = same_Some (counted_sides None p c) sides same in
          subst (λ (s : Sides). Relates names ms tree rule p c (kept s.receiver bs)) equal
          (alike p c bs none unmet kinds is can unnamed (subst (λ (s : Sides). PairsRelate names ms tree rule s.pattern s.code bs) (sym equal) pairs))

  like_match : (p c : Node) (sides : Sides) (bs : List Binding) → is_by_parts rule p ≡ true → meets_method rule p c ≡ false
      → like_sides names ms tree rule p c ≡ Some sides → PairsRelate names ms tree rule sides.pattern sides.code bs → Relates names ms tree rule p c (kept sides.receiver bs)
  like_match p c sides bs none unmet is pairs = by (same_kind p.kind c.kind && can_match names ms tree rule (pattern_res rule p) p c) refl is
    where
      by : (b : Bool) → (same_kind p.kind c.kind && can_match names ms tree rule (pattern_res rule p) p c) ≡ b
          → cond b (like_pairs names ms tree rule (pattern_res rule p) p c) None ≡ Some sides → Relates names ms tree rule p c (kept sides.receiver bs)
      by true can is =
          let e = and_parts (same_kind p.kind c.kind) (can_match names ms tree rule (pattern_res rule p) p c) can in
          pairs_match p c sides bs (pattern_res rule p) none unmet (same_kind-equal p.kind c.kind e.0) refl e.1 is pairs
      by false can is = absurd (none-some sides is)

  sides_match : (p c : Node) (sides : Sides) (bs : List Binding) → is_by_parts rule p ≡ true → sides_of names ms tree rule p c ≡ Some sides
      → PairsRelate names ms tree rule sides.pattern sides.code bs → Relates names ms tree rule p c (kept sides.receiver bs)
  sides_match p c sides bs none is pairs = by (call_of rule p) refl (same_kind c.kind k.METHOD_CALL_EXPR) refl is
    where
      unmet : (o : Option QualifiedCall) (b : Bool) → call_of rule p ≡ o → same_kind c.kind k.METHOD_CALL_EXPR ≡ b → (is_some o && b) ≡ false
          → meets_method rule p c ≡ false
      unmet o b called is_method other =
          ap (λ o. is_some o && same_kind c.kind k.METHOD_CALL_EXPR) called ∙ ap (λ b. is_some o && b) is_method ∙ other

      by : (o : Option QualifiedCall) → call_of rule p ≡ o → (b : Bool) → same_kind c.kind k.METHOD_CALL_EXPR ≡ b
          → sides_in names ms tree rule o b p c ≡ Some sides → Relates names ms tree rule p c (kept sides.receiver bs)
      by (Some call) called true is_method is = method p c call sides bs none called (same_kind-equal c.kind k.METHOD_CALL_EXPR is_method) is pairs
      by (Some call) called false is_method is = like_match p c sides bs none (unmet (Some call) false called is_method refl) is pairs
      by None called b is_method is = like_match p c sides bs none (unmet None b called is_method refl) is pairs

  -- what sides bind is kept
  kept_match : (p c : Node) (sides : Sides) (bs : List Binding) → is_by_parts rule p ≡ true → sides_of names ms tree rule p c ≡ Some sides
      → PartsAgree sides.pattern → (o : Option (List Binding)) → pairs_by (bindings_in names ms tree rule) sides.pattern sides.code ≡ o
      → option_map (kept sides.receiver) o ≡ Some bs → Relates names ms tree rule p c bs
  kept_match p c sides bs none is agree None pairs binds = absurd (none-some bs binds)
  kept_match p c sides bs none is agree (Some found) pairs binds =
      subst (Relates names ms tree rule p c) (same_Some (kept sides.receiver found) bs binds)
      (sides_match p c sides found none is (agree sides.code found pairs))

  node_agrees : (p : Node) → ((q : Node) → size_of q < size_of p → NodeAgrees q) → NodeAgrees p
  node_agrees p below c bs h = by_placeholder (placeholder_at rule.names p) refl
    where
      agrees : (part : Part) → IsSmaller (size_of p) part → PartAgrees part
      agrees (token_part t token) lt = tt
      agrees (node_part q) lt = below q lt

      by_sides : (o : Option Sides) → sides_of names ms tree rule p c ≡ o → is_by_parts rule p ≡ true → Relates names ms tree rule p c bs
      by_sides None is none = absurd (none-some bs (sym (bindings-sides names ms tree rule p c None none is) ∙ h))
      by_sides (Some sides) is none =
          kept_match p c sides bs none is
          (parts_agree sides.pattern
          (All-weaker (IsSmaller (size_of p)) PartAgrees agrees sides.pattern (sides_smaller names ms tree rule p c sides is)))
          (pairs_by (bindings_in names ms tree rule) sides.pattern sides.code) refl
          (sym (bindings-sides names ms tree rule p c (Some sides) none is) ∙ h)

      by_tree : (b : Bool) → is_token_tree c ≡ b → placeholder_at rule.names p ≡ None → is_token_tree p ≡ true
          → (if b then tree_bindings (token_placeholder rule) p c else None) ≡ Some bs → Relates names ms tree rule p c bs
      by_tree true code_is none is binds = token_trees p c bs none is code_is (tree_bindings-TreesMatch (token_placeholder rule) p c bs binds)
      by_tree false code_is none is binds = absurd (none-some bs binds)

      by_kind : (tree_node plain : Bool) → is_token_tree p ≡ tree_node → is_plain rule p ≡ plain → placeholder_at rule.names p ≡ None → Relates names ms tree rule p c bs
      by_kind true plain is plain_is none = by_tree (is_token_tree c) refl none is (sym (bindings-trees names ms tree rule p c none is) ∙ h)
      by_kind false true is plain_is none = by_sides (sides_of names ms tree rule p c) refl (by_parts rule p none is plain_is)
      by_kind false false is plain_is none = absurd (none-some bs (sym (bindings-spoiled names ms tree rule p c none is plain_is) ∙ h))

      by_placeholder : (o : Option ℕ) → placeholder_at rule.names p ≡ o → Relates names ms tree rule p c bs
      by_placeholder (Some i) is = placeholder_agrees p c i bs is (sym (bindings-placeholder names ms tree rule p c i is) ∙ h)
      by_placeholder None is = by_kind (is_token_tree p) (is_plain rule p) refl refl is

  nodes_agree : (size : ℕ) (p : Node) → size_of p ≤ size → NodeAgrees p
  nodes_agree zero p within = absurd (omega arith)
  nodes_agree (suc size) p within = node_agrees p (λ q lt. nodes_agree size q (omega arith))

  pub bindings_in-Relates : (p c : Node) (bs : List Binding) → bindings_in names ms tree rule p c ≡ Some bs → Relates names ms tree rule p c bs
  bindings_in-Relates p = nodes_agree (size_of p) p (omega arith)

  -- ** What matches is computed.

  same_tokens : (t u : ℕ) (p c : Token) (ps cs : List Part) (bs : List Binding) → p.kind ≡ c.kind → p.text ≡ c.text
      → pairs_by (bindings_in names ms tree rule) ps cs ≡ Some bs
      → pairs_by (bindings_in names ms tree rule) (token_part t p ∷ ps) (token_part u c ∷ cs) ≡ Some bs
  same_tokens t u p c ps cs bs kinds texts behind =
      ap (λ b. joined (cond b (Some []) None) (pairs_by (bindings_in names ms tree rule) ps cs))
      (and_from (same_kind p.kind c.kind) (bytes_eq p.text c.text) (equal-same_kind p.kind c.kind kinds) ((bytes_eq-Decides p.text c.text).1 texts))
      ∙ ap (joined (Some [])) behind

  sides-like : (p c : Node) → meets_method rule p c ≡ false → sides_of names ms tree rule p c ≡ like_sides names ms tree rule p c
  sides-like p c unmet = by (call_of rule p) (same_kind c.kind k.METHOD_CALL_EXPR) unmet
    where
      by : (o : Option QualifiedCall) (b : Bool) → (is_some o && b) ≡ false → sides_in names ms tree rule o b p c ≡ like_sides names ms tree rule p c
      by (Some call) true other = let e : true ≡ false = other in cc
      by (Some call) false other = refl
      by None b other = refl

  like_computed : (p c : Node) (o : Option Res) (sides : Sides) → is_by_parts rule p ≡ true → meets_method rule p c ≡ false → p.kind ≡ c.kind
      → pattern_res rule p ≡ o → can_match names ms tree rule o p c ≡ true → like_pairs names ms tree rule o p c ≡ Some sides
      → bindings_in names ms tree rule p c ≡ sides_by (bindings_in names ms tree rule) sides
  like_computed p c o sides none unmet kinds is can same =
      bindings-sides names ms tree rule p c (Some sides) none
      (sides-like p c unmet
      ∙ like-tested names ms tree rule p c o true is
      (and_from (same_kind p.kind c.kind) (can_match names ms tree rule o p c) (equal-same_kind p.kind c.kind kinds) can)
      ∙ same)

  method_computed : (p c : Node) (call : QualifiedCall) (sides : Sides) → is_by_parts rule p ≡ true → call_of rule p ≡ Some call
      → c.kind ≡ k.METHOD_CALL_EXPR → method_sides ms tree rule call p c ≡ Some sides
      → bindings_in names ms tree rule p c ≡ sides_by (bindings_in names ms tree rule) sides
  method_computed p c call sides none called kind is =
      bindings-sides names ms tree rule p c (Some sides) none
      (ap (λ o. sides_in names ms tree rule o (same_kind c.kind k.METHOD_CALL_EXPR) p c) called
      ∙ ap (λ b. sides_in names ms tree rule (Some call) b p c) (equal-same_kind c.kind k.METHOD_CALL_EXPR kind)
      ∙ is)

  mutual
    pub Relates-bindings_in : (p c : Node) (bs : List Binding) → Relates names ms tree rule p c bs → bindings_in names ms tree rule p c ≡ Some bs
    Relates-bindings_in _ _ _ (bound p c i is met) = bindings-placeholder names ms tree rule p c i is ∙ placeholder-met rule i c met
    Relates-bindings_in _ _ _ (token_trees p c bs none is code_is found) =
        bindings-trees names ms tree rule p c none is
        ∙ ap (λ b. if b then tree_bindings (token_placeholder rule) p c else None) code_is
        ∙ TreesMatch-tree_bindings (token_placeholder rule) p c bs found
    Relates-bindings_in _ _ _ (method p c call sides bs none called kind is pairs) =
        method_computed p c call sides none called kind is
        ∙ ap (option_map (kept sides.receiver)) (Pairs-pairs_by sides.pattern sides.code bs pairs)
    Relates-bindings_in _ _ _ (used p c r bs none unmet kinds is told arguments) =
        like_computed p c (Some r) (counted_sides (Some r) p c) none unmet kinds is (told-stands_if names r (code_res ms tree c) told) refl
        ∙ ap (option_map (kept None)) (Pairs-pairs_by (bare (arguments_of p)) (bare (arguments_of c)) bs arguments)
    Relates-bindings_in _ _ _ (named p c found bs none unmet kinds is can by_names found_is pairs) =
        like_computed p c None (named_pairs p found) none unmet kinds is can
        (ap (λ b. cond b (option_map (named_pairs p) (named_nodes p c)) (Some (counted_sides None p c))) by_names ∙ ap (option_map (named_pairs p)) found_is)
        ∙ ap (option_map (kept None)) (Pairs-pairs_by (map node_part (child_nodes p)) (map node_part found) bs pairs)
    Relates-bindings_in _ _ _ (alike p c bs none unmet kinds is can unnamed children) =
        like_computed p c None (counted_sides None p c) none unmet kinds is can
        (ap (λ b. cond b (option_map (named_pairs p) (named_nodes p c)) (Some (counted_sides None p c))) unnamed)
        ∙ ap (option_map (kept None)) (Pairs-pairs_by (bare (parts_of p)) (bare (parts_of c)) bs children)

    Pairs-pairs_by : (ps cs : List Part) (bs : List Binding) → PairsRelate names ms tree rule ps cs bs → pairs_by (bindings_in names ms tree rule) ps cs ≡ Some bs
    Pairs-pairs_by _ _ _ end = refl
    Pairs-pairs_by _ _ _ (tokens t u p c ps cs bs kinds texts behind) =
        same_tokens t u p c ps cs bs kinds texts (Pairs-pairs_by ps cs bs behind)
    Pairs-pairs_by _ _ _ (nodes p c ps cs found rest here behind) =
        ap (λ o. joined o (pairs_by (bindings_in names ms tree rule) ps cs)) (Relates-bindings_in p c found here)
        ∙ ap (joined (Some found)) (Pairs-pairs_by ps cs rest behind)

-- ** With names asked.

pub bindings_of-Matches : (m : Meanings) (tree : ℕ) (rule : ResolvedRule) (p c : Node) (bs : List Binding) → bindings_of m tree rule p c ≡ Some bs → Matches m tree rule p c bs
bindings_of-Matches = bindings_in-Relates true

pub Matches-bindings_of : (m : Meanings) (tree : ℕ) (rule : ResolvedRule) (p c : Node) (bs : List Binding) → Matches m tree rule p c bs → bindings_of m tree rule p c ≡ Some bs
Matches-bindings_of = Relates-bindings_in true
