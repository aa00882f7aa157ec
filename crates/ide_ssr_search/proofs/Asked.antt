-- What the root of a rule's pattern asks of a node has each node that matches.
use Rattle.std.proofs.Common.{◌≡◌, ℕ, ◌≤◌, Bool, true, false, ◌||◌, ◌&&◌, not, List, [], ◌∷◌, Option, Some, None, refl, sym, ap, ◌∙◌, subst, inl, inr, ◌⊎◌, get_or, length, map, arith}
use Rattle.std.specs.Prelude.{IsTrue, if◌then◌else◌, is_some, slice_get, slice_index_or, slice_set}
use Rattle.std.proofs.lemmas.Grind.{get_or-set_at}
use Rattle.std.proofs.lemmas.List.{get_or_past, get_or-set_other}
use Rattle.std.proofs.lemmas.List.Elements.{All-tail}
use Rattle.std.specs.List.{All}
use Rattle.std.specs.Option.{option_map_or}
use Rattle.std.proofs.lemmas.Bool.{or_left, or_right, and_from, and_parts, or_parts, cases_Bool, cases_eq, cases_lt, both_ways}
use Rattle.std.proofs.lemmas.Option.{none-some, same_Some}
use Rattle.ssr_syntax_kinds.specs.declared.kinds.SyntaxKind.{SyntaxKind}
use Rattle.ssr_syntax_kinds.specs.declared.kinds.SyntaxKind.TheVariants as k
use Rattle.ssr_syntax_kinds.specs.Kinds.{same_kind, is_trivia}
use Rattle.ssr_syntax_kinds.proofs.Shared.{same_kind-equal, equal-same_kind}
use Rattle.ssr_syntax_tree.specs.Syntax.{Syntax, Token}
use Rattle.ssr_syntax_tree.specs.declared.number.Element.{Element}
use Rattle.ssr_syntax_tree.specs.declared.number.Element.TheVariants as element
use Rattle.ssr_syntax_tree.specs.Places.{Node, Part, token_part, node_part, parts_of, part_of, node_of, token_of, elements_of, root_of, HasNode, HasToken, HasElement}
use Rattle.ssr_syntax_tree.proofs.Shared.{elements_had, parts_of-elements_of}
use Rattle.ssr_base_trees.specs.Meanings.{Meanings}
use Rattle.ssr_base_trees.specs.Workspace.{Workspace, trees, node_id}
use Rattle.ide_ssr_resolved_rule.specs.Resolved.{ResolvedRule}
use Rattle.ide_ssr_resolved_rule.specs.declared.qualified_calls.QualifiedCall.{QualifiedCall}
use Rattle.ide_ssr_resolved_rule.specs.Placeholders.{placeholder_at}
use Rattle.ide_ssr_bindings.specs.declared.bindings.Binding.{Binding}
use Rattle.ide_ssr_token_trees.specs.Elements.{closes}
use Rattle.ide_ssr_matching.specs.Children.{is_left_out, bare}
use Rattle.ide_ssr_matching.specs.Calls.{call_of}
use Rattle.ide_ssr_matching.specs.Matching.{Matches, bound, token_trees, method, used, named, alike, Pairs, end, tokens, nodes}
use Rattle.ide_ssr_matching.specs.UsedPaths.{pattern_res}
use Rattle.ide_ssr_search.specs.declared.roots.Root.{Root}
use Rattle.ide_ssr_search.specs.declared.roots.Root.TheVariants as roots
use Rattle.ide_ssr_search.specs.declared.roots.KindSet.{KindSet}
use Rattle.ide_ssr_search.specs.declared.roots.Rules.{Rules}
use Rattle.ssr_base_trees.specs.Built.{IsMacroCall}
use Rattle.ide_ssr_search.specs.Found.{IsWanted}
use Rattle.ide_ssr_search.specs.WholeMatches.{IsWholeMatch}
use Rattle.ide_ssr_search.specs.Private.Shut.{Shuts}
use Rattle.ide_ssr_bindings.proofs.Shared.{IsTree, in_tree}
use Rattle.ide_ssr_search.specs.Private.Words.{counts, pairs_otherwise, word_of, IsWordOf, LacksWord}
use Rattle.ide_ssr_search.specs.Private.Roots.{first_counted, counts_first, has_asked, token_asked, has_kind, AreTokenKinds, IsRootOf, AreKindsIn}

-- ** Sibling by sibling.

pub counted_here : (part : Part) (rest : List Part) (kind : SyntaxKind) → Some kind ≡ first_counted (part ∷ []) → Some kind ≡ first_counted (part ∷ rest)
counted_here (token_part t token) rest kind is = here (counts token.kind) is
  where
    here : (b : Bool) → Some kind ≡ (if b then Some token.kind else None) → Some kind ≡ (if b then Some token.kind else first_counted rest)
    here true is = is
    here false is = absurd (none-some kind (sym is))
counted_here (node_part node) rest kind is = absurd (none-some kind (sym is))

pub counted_behind : (part : Part) (rest : List Part) → None ≡ first_counted (part ∷ []) → first_counted (part ∷ rest) ≡ first_counted rest
counted_behind (token_part t token) rest is = here (counts token.kind) is
  where
    here : (b : Bool) → None ≡ (if b then Some token.kind else None) → (if b then Some token.kind else first_counted rest) ≡ first_counted rest
    here true is = absurd (none-some token.kind is)
    here false is = refl
counted_behind (node_part node) rest is = refl

-- ** The first token that counts is one that a match compares.

pub counted_kept : (kind : SyntaxKind) (rest : List Part) → counts kind ≡ true → is_left_out kind rest ≡ false
counted_kept kind rest counted = by_parts (is_trivia kind) (same_kind kind k.COMMA) counted
  where
    by_parts : (a b : Bool) → (not a && not b) ≡ true → (a || (b && closes rest)) ≡ false
    by_parts true b is = let e : false ≡ true = is in cc
    by_parts false true is = let e : false ≡ true = is in cc
    by_parts false false is = refl

-- a token that doesn't count is passed over, whether it is left out or not
passed_over : (left_out : Bool) (t : ℕ) (token : Token) (parts : List Part) → counts token.kind ≡ false
    → first_counted (if left_out then parts else token_part t token ∷ parts) ≡ first_counted parts
passed_over true t token parts other = refl
passed_over false t token parts other = ap (λ b. if b then Some token.kind else first_counted parts) other

-- what is left out doesn't count
counted_bare : (parts : List Part) → first_counted (bare parts) ≡ first_counted parts
counted_bare [] = refl
counted_bare (token_part t token ∷ rest) =
    elim (cases_Bool (counts token.kind)) [
      | inl counted ↦
          ap (λ b. first_counted (if b then bare rest else token_part t token ∷ bare rest)) (counted_kept token.kind rest counted)
          ∙ ap (λ b. if b then Some token.kind else first_counted (bare rest)) counted
          ∙ sym (ap (λ b. if b then Some token.kind else first_counted rest) counted)
      | inr other ↦
          passed_over (is_left_out token.kind rest) t token (bare rest) other ∙ counted_bare rest
          ∙ sym (ap (λ b. if b then Some token.kind else first_counted rest) other)
    ]
counted_bare (node_part node ∷ rest) = counted_bare rest

-- two rows that pair have one and the same
counted_paired : (m : Meanings) (tree : ℕ) (rule : ResolvedRule) (ps cs : List Part) (bs : List Binding) → Pairs m tree rule ps cs bs
    → first_counted ps ≡ first_counted cs
counted_paired m tree rule _ _ _ end = refl
counted_paired m tree rule _ _ _ (tokens t u p c ps cs bs same text rest) =
    ap (λ kind. if counts kind then Some kind else first_counted ps) same
    ∙ ap (λ behind. if counts c.kind then Some c.kind else behind) (counted_paired m tree rule ps cs bs rest)
counted_paired m tree rule _ _ _ (nodes p c ps cs bs rest here behind) = counted_paired m tree rule ps cs rest behind

-- ** What is asked.

pub root_of_placeholder : (rule : ResolvedRule) → IsRootOf rule roots.Placeholder
root_of_placeholder rule m tree c bindings matches = refl

matched_kind : (m : Meanings) (tree : ℕ) (rule : ResolvedRule) (p c : Node) (bs : List Binding) → placeholder_at rule.names p ≡ None → Matches m tree rule p c bs
    → (p.kind ≡ c.kind) ⊎ ((call : QualifiedCall) × (call_of rule p ≡ Some call) × (c.kind ≡ k.METHOD_CALL_EXPR))
matched_kind m tree rule _ _ _ none (bound p c i is met) = absurd (none-some i (sym none ∙ is))
matched_kind m tree rule _ _ _ none (token_trees p c bs other p_tree c_tree found) =
    inl (same_kind-equal p.kind k.TOKEN_TREE p_tree ∙ sym (same_kind-equal c.kind k.TOKEN_TREE c_tree))
matched_kind m tree rule _ _ _ none (method p c call sides bs other is kind sides_are pairs) = inr (call, is, kind)
matched_kind m tree rule _ _ _ none (used p c r bs other unmet same stands told arguments) = inl same
matched_kind m tree rule _ _ _ none (named p c found bs other unmet same unused can by_names are pairs) = inl same
matched_kind m tree rule _ _ _ none (alike p c bs other unmet same unused can unnamed children) = inl same

own_kind : (m : Meanings) (tree : ℕ) (rule : ResolvedRule) (p c : Node) (bs : List Binding) → placeholder_at rule.names p ≡ None → call_of rule p ≡ None
    → Matches m tree rule p c bs → p.kind ≡ c.kind
own_kind m tree rule p c bs none no_call matches = elim (matched_kind m tree rule p c bs none matches) [
  | inl same ↦ same
  | inr called ↦ absurd (none-some called.0 (sym no_call ∙ called.1))
]

pub matched_alike : (m : Meanings) (tree : ℕ) (rule : ResolvedRule) (p c : Node) (bs : List Binding) → placeholder_at rule.names p ≡ None → call_of rule p ≡ None
    → pattern_res rule p ≡ None → pairs_otherwise p.kind ≡ false → Matches m tree rule p c bs → Pairs m tree rule (bare (parts_of p)) (bare (parts_of c)) bs
matched_alike m tree rule _ _ _ none no_call unused by_children (bound p c i is met) = absurd (none-some i (sym none ∙ is))
matched_alike m tree rule _ _ _ none no_call unused by_children (token_trees p c bs other p_tree c_tree found) =
    let e : true ≡ false = sym p_tree ∙ (or_parts (same_kind p.kind k.TOKEN_TREE) (same_kind p.kind k.RECORD_EXPR_FIELD_LIST) by_children).0 in cc
matched_alike m tree rule _ _ _ none no_call unused by_children (method p c call sides bs other is kind sides_are pairs) = absurd (none-some call (sym no_call ∙ is))
matched_alike m tree rule _ _ _ none no_call unused by_children (used p c r bs other unmet same stands told arguments) = absurd (none-some r (sym unused ∙ stands))
matched_alike m tree rule _ _ _ none no_call unused by_children (named p c found bs other unmet same again can by_names are pairs) =
    let list = (and_parts (same_kind p.kind k.RECORD_EXPR_FIELD_LIST) _ by_names).0 in
    let e : true ≡ false = sym list ∙ (or_parts (same_kind p.kind k.TOKEN_TREE) (same_kind p.kind k.RECORD_EXPR_FIELD_LIST) by_children).1 in cc
matched_alike m tree rule _ _ _ none no_call unused by_children (alike p c bs other unmet same again can unnamed children) = children

-- a root that is a qualified call asks for its kind, or for a method call
pub root_of_call : (rule : ResolvedRule) (kind : SyntaxKind) → placeholder_at rule.names (root_of rule.pattern) ≡ None → kind ≡ (root_of rule.pattern).kind
    → IsRootOf rule (roots.Call kind)
root_of_call rule kind none kind_is m tree c bindings matches =
    elim (matched_kind m tree rule (root_of rule.pattern) c bindings none matches) [
      | inl same ↦ or_left (same_kind c.kind kind) (same_kind c.kind k.METHOD_CALL_EXPR) (equal-same_kind c.kind kind (sym same ∙ sym kind_is))
      | inr called ↦ or_right (same_kind c.kind kind) (same_kind c.kind k.METHOD_CALL_EXPR) (equal-same_kind c.kind k.METHOD_CALL_EXPR called.2)
    ]

-- a root that is a used path asks for its kind alone
pub root_of_path : (rule : ResolvedRule) (kind : SyntaxKind) → placeholder_at rule.names (root_of rule.pattern) ≡ None → call_of rule (root_of rule.pattern) ≡ None
    → kind ≡ (root_of rule.pattern).kind → IsRootOf rule (roots.Node kind None)
root_of_path rule kind none no_call kind_is m tree c bindings matches =
    and_from _ _ (equal-same_kind c.kind kind (sym (own_kind m tree rule (root_of rule.pattern) c bindings none no_call matches) ∙ sym kind_is)) refl

pub root_of_node : (rule : ResolvedRule) (kind : SyntaxKind) (token : Option SyntaxKind) → placeholder_at rule.names (root_of rule.pattern) ≡ None
    → call_of rule (root_of rule.pattern) ≡ None → pattern_res rule (root_of rule.pattern) ≡ None → pairs_otherwise kind ≡ false
    → kind ≡ (root_of rule.pattern).kind → token ≡ first_counted (parts_of (root_of rule.pattern))
    → IsRootOf rule (roots.Node kind token)
root_of_node rule kind token none no_call unused by_children kind_is token_is m tree c bindings matches =
    let p = root_of rule.pattern in
    and_from _ _ (equal-same_kind c.kind kind (sym (own_kind m tree rule p c bindings none no_call matches) ∙ sym kind_is))
    (by_token token (sym token_is) (matched_alike m tree rule p c bindings none no_call unused (ap pairs_otherwise (sym kind_is) ∙ by_children) matches))
  where
    by_token : (o : Option SyntaxKind) → first_counted (parts_of (root_of rule.pattern)) ≡ o
        → Pairs m tree rule (bare (parts_of (root_of rule.pattern))) (bare (parts_of c)) bindings → option_map_or (λ kind. counts_first kind (parts_of c)) o true ≡ true
    by_token None is pairs = refl
    by_token (Some kind) is pairs =
        let p = root_of rule.pattern in
        let first : first_counted (parts_of c) ≡ Some kind = sym (counted_bare (parts_of c))
        ∙ sym (counted_paired m tree rule (bare (parts_of p)) (bare (parts_of c)) bindings pairs) ∙ counted_bare (parts_of p) ∙ is in
        ap (λ own. option_map_or (λ own. same_kind own kind) own false) first ∙ equal-same_kind kind kind refl

pub root_node : (syntax : Syntax) → node_of syntax 0 ≡ root_of syntax
unfolding node_of
root_node syntax = refl

pub not_some : {A : Type 0} (o : Option A) → is_some o ≡ false → o ≡ None
not_some None is = refl
not_some (Some x) is = let e : true ≡ false = is in cc

pub asked_kind : (root : Root) (kind : SyntaxKind) (token : Option SyntaxKind) (c : Node) → root ≡ roots.Node kind token → has_asked root c ≡ true → c.kind ≡ kind
asked_kind root kind token c is asked = same_kind-equal c.kind kind (and_parts _ _ (subst (λ r. has_asked r c ≡ true) is asked)).0

pub asked_call : (root : Root) (kind : SyntaxKind) (c : Node) → root ≡ roots.Call kind → has_asked root c ≡ true → (c.kind ≡ kind) ⊎ (c.kind ≡ k.METHOD_CALL_EXPR)
asked_call root kind c is asked = by (same_kind c.kind kind) refl (subst (λ r. has_asked r c ≡ true) is asked)
  where
    by : (b : Bool) → same_kind c.kind kind ≡ b → (b || same_kind c.kind k.METHOD_CALL_EXPR) ≡ true → (c.kind ≡ kind) ⊎ (c.kind ≡ k.METHOD_CALL_EXPR)
    by true same either = inl (same_kind-equal c.kind kind same)
    by false same either = inr (same_kind-equal c.kind k.METHOD_CALL_EXPR either)

-- ** What the tokens of a tree tell.

first_in : (tree : Syntax) (es : List Element) (kind : SyntaxKind) → All (HasElement tree) es → first_counted (map (part_of tree) es) ≡ Some kind
    → (t : ℕ) × HasToken tree t × ((token_of tree t).kind ≡ kind)
first_in tree [] kind had is = absurd (none-some kind is)
first_in tree (element.Node n ∷ es) kind had is = first_in tree es kind (All-tail (HasElement tree) (element.Node n) es had) is
first_in tree (element.Token t ∷ es) kind had is =
    let own = (token_of tree t.0).kind in
    let behind = first_counted (map (part_of tree) es) in
    elim (cases_Bool (counts own)) [
      | inl counted ↦ (
        t.0,
        had 0 (element.Token t) (omega arith),
        same_Some own kind (sym (ap (λ b. if b then Some own else behind) counted) ∙ is),
      )
      | inr other ↦ first_in tree es kind (All-tail (HasElement tree) (element.Token t) es had) (sym (ap (λ b. if b then Some own else behind) other) ∙ is)
    ]

is_first : (o : Option SyntaxKind) (kind : SyntaxKind) → option_map_or (λ own. same_kind own kind) o false ≡ true → o ≡ Some kind
is_first None kind is = let e : false ≡ true = is in cc
is_first (Some own) kind is = ap Some (same_kind-equal own kind is)

-- where a node has what a root asks for, the tree has a token of the kind that it asks for
pub asked_in : (tree : Syntax) (n : ℕ) (kinds : KindSet) (root : Root) (token : SyntaxKind) → HasNode tree n → AreTokenKinds tree kinds
    → token_asked root ≡ Some token → has_asked root (node_of tree n) ≡ true → has_kind kinds token ≡ true
asked_in tree n kinds roots.Placeholder token has are is asked = absurd (none-some token is)
asked_in tree n kinds (roots.Call kind) token has are is asked = absurd (none-some token is)
asked_in tree n kinds (roots.Node kind own) token has are is asked =
    let parts = parts_of (node_of tree n) in
    let counted = (and_parts (same_kind (node_of tree n).kind kind) (option_map_or (λ token. counts_first token parts) own true) asked).1 in
    let first : counts_first token parts ≡ true = subst (λ o. option_map_or (λ token. counts_first token parts) o true ≡ true) is counted in
    let there =
    first_in tree (elements_of (node_of tree n)) token (elements_had tree n has)
    (ap first_counted (parts_of-elements_of tree n has) ∙ is_first (first_counted parts) token first) in
    subst (λ kind. has_kind kinds kind ≡ true) there.2 (are there.0 there.1)

-- ** Sets of kinds.

pub set_kept : (every : Bool) (listed : List Bool) (i j : ℕ) → (every || slice_index_or listed j false) ≡ true → (every || slice_index_or (slice_set listed i true) j false) ≡ true
set_kept true listed i j has = refl
set_kept false listed i j has =
    elim (cases_eq j i) [
      | inl same ↦
          elim (cases_lt i (length listed)) [
            | inl within ↦ get_or-set_at listed i j true false same within
            | inr past ↦ absurd (both_ways (get_or listed j false) (get_or_past listed j false (subst (λ n. length listed ≤ n) (sym same) past)) has)
          ]
      | inr differ ↦ get_or-set_other listed i j true false differ ∙ has
    ]

-- ** Nodes that lack it.

pub not_met : (b : Bool) (asked own : Option (List ℕ)) → IsTrue b ⊎ LacksWord asked own → b ≡ false → LacksWord asked own
not_met b asked own (inl is) other = absurd (both_ways b other is)
not_met b asked own (inr lacks) other = lacks

module _ (w : Workspace) (meanings : Meanings) (t n : ℕ) (s : Syntax) (at : IsTree (trees w) t s) where
  -- what a whole match at a node says of the node
  matched_there : (rule : ResolvedRule) (bindings : List Binding) → IsWholeMatch (trees w) meanings rule (node_id t n) bindings
      → Matches meanings t rule (root_of rule.pattern) (node_of s n) bindings
  matched_there rule bindings whole = in_tree (trees w) t s (λ s. Matches meanings t rule (root_of rule.pattern) (node_of s n) bindings) at whole.matches

  pub unmatched_root : (rule : ResolvedRule) (root : Root) → IsRootOf rule root → has_asked root (node_of s n) ≡ false
      → (bindings : List Binding) → IsWholeMatch (trees w) meanings rule (node_id t n) bindings → ⊥
  unmatched_root rule root is lacks bindings whole =
      both_ways (has_asked root (node_of s n)) lacks (is meanings t (node_of s n) bindings (matched_there rule bindings whole))

  -- a node of another word has no match
  pub unmatched_word : (rule : ResolvedRule) (asked own : Option (List ℕ)) → IsWordOf rule asked → own ≡ word_of (node_of s n) → LacksWord asked own
      → (bindings : List Binding) → IsWholeMatch (trees w) meanings rule (node_id t n) bindings → ⊥
  unmatched_word rule asked own is own_is lacks bindings whole =
      lacks.2 (own_is ∙ is lacks.0 lacks.1 meanings t (node_of s n) bindings (matched_there rule bindings whole))

  pub unmatched_kind : (rules : Rules) (kinds : KindSet) → AreKindsIn rules s kinds → HasNode s n → has_kind kinds (node_of s n).kind ≡ false
      → (place : ℕ) (rule : ResolvedRule) (bindings : List Binding) → slice_get rules.rules.now place ≡ Some rule → IsWanted rules.wanted.now place → IsWholeMatch (trees w) meanings rule (node_id t n) bindings → ⊥
  unmatched_kind rules kinds are has lacks place rule bindings is flag whole =
      both_ways (has_kind kinds (node_of s n).kind) lacks (are.matched place rule is flag meanings t n bindings has (matched_there rule bindings whole))

module _ (w : Workspace) (t n : ℕ) (s : Syntax) (at : IsTree (trees w) t s) where
  -- a node of a kind that concerns nothing shuts in nothing
  pub unshutting_kind : (rules : Rules) (kinds : KindSet) → AreKindsIn rules s kinds → has_kind kinds (node_of s n).kind ≡ false → Shuts (trees w) (node_id t n) → ⊥
  unshutting_kind rules kinds are lacks (inl is_use) =
      both_ways (has_kind kinds (node_of s n).kind) lacks
      (ap (has_kind kinds) (in_tree (trees w) t s (λ s. (node_of s n).kind ≡ k.USE) at is_use) ∙ are.uses)
  unshutting_kind rules kinds are lacks (inr call) =
      both_ways (has_kind kinds (node_of s n).kind) lacks
      (ap (has_kind kinds) (in_tree (trees w) t s (λ s. (node_of s n).kind ≡ k.MACRO_CALL) at call.0) ∙ are.calls)

  pub no_call_of_kind : (rules : Rules) (kinds : KindSet) → AreKindsIn rules s kinds → has_kind kinds (node_of s n).kind ≡ false → IsMacroCall (trees w) (node_id t n) → ⊥
  no_call_of_kind rules kinds are lacks call =
      both_ways (has_kind kinds (node_of s n).kind) lacks
      (ap (has_kind kinds) (in_tree (trees w) t s (λ s. (node_of s n).kind ≡ k.MACRO_CALL) at call) ∙ are.calls)
