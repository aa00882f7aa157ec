-- What the code of the matcher answers, case by case, and pair by pair.
use Rattle.std.proofs.Common.{◌≡◌, ℕ, suc, ◌+◌, ◌<◌, Bool, true, false, ◌&&◌, cond, List, [], ◌∷◌, ◌++◌, length, All, Option, Some, None, refl, sym, ◌∙◌, ap, subst, arith, append_assoc, append-nil, ◌*◌, option_to_list, is_some, not, IfNone, IfOk, Result}
use Rattle.std.specs.Prelude.{map}
use Rattle.std.specs.Option.{is_none, option_and_then, option_map}
use Rattle.std.proofs.lemmas.Bool.{and_from, and_parts, not-true}
use Rattle.std.specs.Str.{bytes_eq}
use Rattle.ssr_syntax_kinds.specs.declared.kinds.SyntaxKind.{SyntaxKind}
use Rattle.ssr_syntax_kinds.specs.declared.kinds.SyntaxKind.TheVariants as k
use Rattle.ssr_syntax_kinds.specs.Kinds.{same_kind}
use Rattle.ssr_syntax_tree.specs.declared.number.NodeNo.{NodeNo}
use Rattle.ssr_syntax_tree.specs.declared.number.TokenNo.{TokenNo}
use Rattle.ssr_syntax_tree.specs.Syntax.{Syntax}
use Rattle.ssr_syntax_tree.specs.Places.{HasNode, Node, Part, parts_of, part_of, node_of, token_of, size_of, HasElement}
use Rattle.ssr_syntax_tree.specs.declared.number.Element.{Element}
use Rattle.ssr_syntax_tree.specs.declared.number.Element.TheVariants as element
use Rattle.ssr_syntax_tree.proofs.Shared.{node_of-number, smaller}
use Rattle.ssr_base_trees.specs.declared.semantics.Res.{Res}
use Rattle.ssr_base_trees.specs.Meanings.{Meanings}
use Rattle.ssr_base_trees.specs.Workspace.{node_id}
use Rattle.ide_ssr_resolved_rule.specs.declared.qualified_calls.QualifiedCall.{QualifiedCall}
use Rattle.ide_ssr_resolved_rule.specs.Placeholders.{placeholder_at}
use Rattle.ide_ssr_resolved_rule.specs.QualifiedCalls.{call_at}
use Rattle.ide_ssr_resolved_rule.specs.Resolved.{ResolvedRule, meets}
use Rattle.ide_ssr_resolved_rule.specs.UsedPaths.{res_at}
use Rattle.ide_ssr_bindings.specs.declared.bindings.Binding.{Binding}
use Rattle.ide_ssr_bindings.specs.Found.{node_binding}
use Rattle.ide_ssr_matching.specs.Children.{bare}
use Rattle.ide_ssr_matching.specs.TokenTrees.{is_token_tree, tree_by, is_plain, is_by_parts}
use Rattle.ide_ssr_matching.specs.UsedPaths.{arguments_of, pattern_res}
use Rattle.ide_ssr_matching.specs.Sides.{Sides, kept}
use Rattle.ide_ssr_matching.specs.Calls.{method_sides, can_be_call}
use Rattle.ide_ssr_token_trees.specs.Bindings.{joined, Answers, matched, other}
use Rattle.ide_ssr_token_trees.specs.Recording.{Recorded, recorded}
use Rattle.ide_ssr_token_trees.proofs.Shared.{recorded-nil, recorded-append}
use Rattle.ide_ssr_matching.specs.Bindings.{Binder, pair_by, pairs_by, placeholder_by, stands_if, counted, counted_sides, can_match, like_sides, sides_in, sides_by, sides_of, other_by, node_by, bindings_in, like_pairs}
use Rattle.ide_ssr_matching.specs.Private.Bindings.{counted_by}
use Rattle.ide_ssr_matching.specs.Private.ChildNodes.{IsNodeBelow}
use Rattle.ide_ssr_matching.specs.Records.{is_named, named_nodes, named_pairs}
use Rattle.ide_ssr_matching.specs.Private.Children.{IsElementBelow, AreKept}
use Rattle.ide_ssr_matching.proofs.Bare.{below-has}
use Rattle.ide_ssr_matching.proofs.Steps.{bindings_step}

pub none_there : {A : Type 0} (o : Option A) → ((x : A) → o ≡ Some x → ⊥) → o ≡ None
none_there None h = refl
none_there (Some x) h = absurd (h x refl)

pub joined_assoc : (a b c : Option (List Binding)) → joined (joined a b) c ≡ joined a (joined b c)
joined_assoc None b c = refl
joined_assoc (Some xs) None c = refl
joined_assoc (Some xs) (Some ys) None = refl
joined_assoc (Some xs) (Some ys) (Some zs) = ap Some (append_assoc xs ys zs)

joined-some : (found bs : List Binding) (o : Option (List Binding)) → joined (Some found) (joined (Some bs) o) ≡ joined (Some (found ++ bs)) o
joined-some found bs o = sym (joined_assoc (Some found) (Some bs) o)

pub lacking : (o : Option (List Binding)) → joined o None ≡ None
lacking None = refl
lacking (Some bs) = refl

pub joined-none : (o : Option (List Binding)) → joined (Some []) o ≡ o
joined-none None = refl
joined-none (Some bs) = refl

-- where the answer is no, nothing is bound
pub unmatched : (o : Option (List Binding)) (old new : Recorded) (a : Bool) → a ≡ false → Answers o old new a → o ≡ None
unmatched o old new a failed (matched bs is found added) = let e : true ≡ false = sym is ∙ failed in cc
unmatched o old new a failed (other is none) = none

pub lent_next : (lent pattern : Syntax) (p : Element) (before ps : List Element) → lent ≡ pattern
    → bare (map (part_of lent) before) ≡ part_of lent p ∷ bare (map (part_of lent) ps)
    → bare (map (part_of pattern) before) ≡ part_of pattern p ∷ bare (map (part_of pattern) ps)
lent_next lent pattern p before ps lent_is come =
    subst (λ tree. bare (map (part_of tree) before) ≡ part_of tree p ∷ bare (map (part_of tree) ps)) lent_is come

-- no child is left
pub none_left : (code : Syntax) (before left : List Element) → bare (map (part_of code) before) ≡ bare (map (part_of code) left) → left ≡ [] → bare (map (part_of code) before) ≡ []
none_left code before left come none = come ∙ ap (λ xs. bare (map (part_of code) xs)) none

pub lent_none : (lent pattern : Syntax) (before left : List Element) → lent ≡ pattern → bare (map (part_of lent) before) ≡ bare (map (part_of lent) left) → left ≡ []
    → bare (map (part_of pattern) before) ≡ []
lent_none lent pattern before left lent_is come none =
    subst (λ tree. bare (map (part_of tree) before) ≡ []) lent_is (none_left lent before left come none)

negated : (b c : Bool) → c ≡ not b → b ≡ not c
negated true c is = ap not (sym is)
negated false c is = ap not (sym is)

-- how far a recursion on a pattern still goes: at what counts of a node, at parts of it in lists, at parts that are to be found,
-- at a node of a kind, at any node and at an element
abbrev pub children_size : Syntax → ℕ → ℕ
children_size code n = 7 * size_of (node_of code n)

abbrev pub lists_size : Syntax → ℕ → ℕ
lists_size code n = 1 + children_size code n

abbrev pub pairs_size : Syntax → ℕ → ℕ
pairs_size code n = 1 + lists_size code n

abbrev pub like_size : Syntax → ℕ → ℕ
like_size code n = 1 + pairs_size code n

abbrev pub parts_size : Syntax → ℕ → ℕ
parts_size code n = 1 + like_size code n

abbrev pub node_size : Syntax → ℕ → ℕ
node_size code n = 1 + parts_size code n

abbrev pub element_size : Syntax → Element → ℕ
element_size code (element.Node n) = 1 + node_size code n.0
element_size code (element.Token t) = 0

pub smaller_below : (code : Syntax) (n : ℕ) (p : Element) → HasNode code n → IsElementBelow code n p → element_size code p < children_size code n
smaller_below code n (element.Node m) has b = let lt = smaller code n m.0 has b.1 in omega arith
smaller_below code n (element.Token t) has b = omega arith

pub node-smaller : (code : Syntax) (n : ℕ) (node : NodeNo) → HasNode code n → IsNodeBelow code n node → children_size code node.0 < lists_size code n
node-smaller code n node has below = let lt = smaller code n node.0 has below.1 in omega arith

pub element-smaller : (code : Syntax) (n : ℕ) (before ps : List Element) (p : Element) → HasNode code n → All (IsElementBelow code n) before → AreKept before (p ∷ ps)
    → element_size code p < children_size code n
element-smaller code n before ps p has below kept = smaller_below code n p has (kept.below code n below 0 p (omega arith))

pub first-below : (code : Syntax) (n : ℕ) (before ps : List Element) (p : Element) → All (IsElementBelow code n) before → AreKept before (p ∷ ps) → HasElement code p
first-below code n before ps p below kept = below-has code n p (kept.below code n below 0 p (omega arith))

tested_answer : (same : Bool) (old : Recorded) (b : Bool) → b ≡ same → Answers (cond same (Some []) None) old old b
tested_answer true old b is = matched [] is refl (sym (recorded-nil old))
tested_answer false old b is = other is refl

pub placeholder-met : (rule : ResolvedRule) (i : ℕ) (c : Node) → meets rule i c.kind ≡ true
    → placeholder_by rule i c ≡ Some (node_binding i c.number ∷ [])
placeholder-met rule i c is = rw is refl

pub placeholder-unmet : (rule : ResolvedRule) (i : ℕ) (c : Node) → meets rule i c.kind ≡ false → placeholder_by rule i c ≡ None
placeholder-unmet rule i c is = rw is refl

pub placeholder-binds : (rule : ResolvedRule) (code : Syntax) (m : ℕ) (old new : Recorded) (i : ℕ) (ck : SyntaxKind) (b : Bool) → HasNode code m
    → ck ≡ (node_of code m).kind → b ≡ meets rule i ck → b ≡ true → new ≡ recorded old (node_binding i m ∷ [])
    → Answers (placeholder_by rule i (node_of code m)) old new true
placeholder-binds rule code m old new i ck b has ck_is b_is met new_is =
    matched
    (node_binding i m ∷ [])
    refl
    (placeholder-met rule i (node_of code m) (ap (meets rule i) (sym ck_is) ∙ sym b_is ∙ met)
    ∙ ap (λ m. Some (node_binding i m ∷ [])) (node_of-number code m has))
    new_is

pub placeholder-lacks : (rule : ResolvedRule) (code : Syntax) (m : ℕ) (old : Recorded) (i : ℕ) (ck : SyntaxKind) (b : Bool)
    → ck ≡ (node_of code m).kind → b ≡ meets rule i ck → b ≡ false → Answers (placeholder_by rule i (node_of code m)) old old false
placeholder-lacks rule code m old i ck b ck_is b_is unmet =
    other refl (placeholder-unmet rule i (node_of code m) (ap (meets rule i) (sym ck_is) ∙ sym b_is ∙ unmet))

-- ** One after the other.

-- so far these were bound, and `rest` is still to come
pub record IsBoundSoFar (whole rest : Option (List Binding)) (old out : Recorded) : Type 0 where
  pub bound : List Binding
  pub comes_to : whole ≡ joined (Some bound) rest
  pub out_is : out ≡ recorded old bound

pub bound-starts : (whole : Option (List Binding)) (old : Recorded) → IsBoundSoFar whole whole old old
bound-starts whole old = record { bound = []; comes_to = sym (joined-none whole); out_is = sym (recorded-nil old) }

module _ (whole : Option (List Binding)) (old out : Recorded) where
  module _ (next rest : Option (List Binding)) (new : Recorded) (b : Bool) (so_far : IsBoundSoFar whole (joined next rest) old out) where
    pub bound-turns : Answers next out new b → b ≡ true → IsBoundSoFar whole rest old new
    bound-turns (matched bs is found new_is) holds = record {
      bound = so_far.bound ++ bs;
      comes_to = so_far.comes_to ∙ ap (λ o. joined (Some so_far.bound) (joined o rest)) found ∙ joined-some so_far.bound bs rest;
      out_is = new_is ∙ ap (λ out. recorded out bs) so_far.out_is ∙ recorded-append old so_far.bound bs;
    }
    bound-turns (other is none) holds = let e : true ≡ false = sym holds ∙ is in cc

    pub bound-differs : Answers next out new b → b ≡ false → Answers whole old new false
    bound-differs answers fails =
        other refl (so_far.comes_to ∙ ap (λ o. joined (Some so_far.bound) (joined o rest)) (unmatched next out new b fails answers))

  pub bound-lacks : (rest : Option (List Binding)) → rest ≡ None → IsBoundSoFar whole rest old out → Answers whole old out false
  bound-lacks rest none so_far = other refl (so_far.comes_to ∙ ap (joined (Some so_far.bound)) none)

  pub bound-ends : IsBoundSoFar whole (Some []) old out → Answers whole old out true
  bound-ends so_far = matched so_far.bound refl (so_far.comes_to ∙ ap Some (append-nil so_far.bound)) so_far.out_is

-- ** Pair by pair.

module _ (inner : Binder) (whole : Option (List Binding)) where
  -- the pairs so far, where ps and cs are still to come
  abbrev pub PairedSoFar : List Part → List Part → Recorded → Recorded → Type 0
  PairedSoFar ps cs old out = IsBoundSoFar whole (pairs_by inner ps cs) old out

  pub paired-starts : (ps cs before beside : List Part) (old : Recorded) → whole ≡ pairs_by inner before beside → ps ≡ before → cs ≡ beside
      → PairedSoFar ps cs old old
  paired-starts ps cs before beside old whole_is ps_are cs_are =
      subst (λ rest. IsBoundSoFar whole rest old old)
      (whole_is ∙ ap (λ ps. pairs_by inner ps beside) (sym ps_are) ∙ ap (pairs_by inner ps) (sym cs_are)) (bound-starts whole old)

  module _ (before beside : List Part) (old out : Recorded) (so_far : PairedSoFar before beside old out) where
    -- where the next of both sides have come
    next_pair : (p c : Part) (ps cs : List Part) → before ≡ p ∷ ps → beside ≡ c ∷ cs
        → IsBoundSoFar whole (joined (pair_by inner p c) (pairs_by inner ps cs)) old out
    next_pair p c ps cs ps_come cs_come =
        subst (λ rest. IsBoundSoFar whole rest old out) (ap (λ ps. pairs_by inner ps beside) ps_come ∙ ap (pairs_by inner (p ∷ ps)) cs_come) so_far

    pub paired-turns : (p c : Part) (ps cs : List Part) (new : Recorded) (b : Bool) → before ≡ p ∷ ps → beside ≡ c ∷ cs
        → Answers (pair_by inner p c) out new b → b ≡ true → PairedSoFar ps cs old new
    paired-turns p c ps cs new b ps_come cs_come answers holds =
        bound-turns whole old out (pair_by inner p c) (pairs_by inner ps cs) new b (next_pair p c ps cs ps_come cs_come) answers holds

    -- a pair that doesn't match
    pub paired-differs : (p c : Part) (ps cs : List Part) (new : Recorded) (b : Bool) → before ≡ p ∷ ps → beside ≡ c ∷ cs
        → Answers (pair_by inner p c) out new b → b ≡ false → Answers whole old new false
    paired-differs p c ps cs new b ps_come cs_come answers fails =
        bound-differs whole old out (pair_by inner p c) (pairs_by inner ps cs) new b (next_pair p c ps cs ps_come cs_come) answers fails

    -- the code has nothing more
    pub paired-short : (p : Part) (ps : List Part) → before ≡ p ∷ ps → beside ≡ [] → Answers whole old out false
    paired-short p ps ps_come none =
        bound-lacks whole old out (pairs_by inner before beside) (ap (λ ps. pairs_by inner ps beside) ps_come ∙ ap (pairs_by inner (p ∷ ps)) none) so_far

    -- the pattern has nothing more
    module _ (none : before ≡ []) where
      ended : (cs : List Part) → beside ≡ cs → IsBoundSoFar whole (pairs_by inner [] cs) old out
      ended cs are =
          subst (λ rest. IsBoundSoFar whole rest old out) (ap (λ ps. pairs_by inner ps beside) none ∙ ap (pairs_by inner []) are) so_far

      pub both-end : (b : Bool) → beside ≡ [] → false ≡ not b → Answers whole old out b
      both-end b last b_is = subst (Answers whole old out) (sym (negated b false b_is)) (bound-ends whole old out (ended [] last))

      pub one-left : (c : Part) (cs : List Part) (b : Bool) → beside ≡ c ∷ cs → true ≡ not b → Answers whole old out b
      one-left c cs b more b_is = subst (Answers whole old out) (sym (negated b true b_is)) (bound-lacks whole old out None refl (ended (c ∷ cs) more))

      pub paired-ends : (code : Syntax) (came : Option Element) (cs : List Element) (b : Bool)
          → beside ≡ map (part_of code) (option_to_list came) ++ bare (map (part_of code) cs) → IfNone came (cs ≡ []) → is_some came ≡ not b
          → Answers whole old out b
      paired-ends code None cs b come last b_is = both-end b (come ∙ ap (λ cs. bare (map (part_of code) cs)) last) b_is
      paired-ends code (Some c) cs b come last b_is = one-left (part_of code c) (bare (map (part_of code) cs)) b come b_is

-- ** The children of both nodes.

module _ (inner : Binder) (pattern code : Syntax) (n m : ℕ) (used : Option Res) where
  pub children-start : (lent : Syntax) (ps cs : List Element) (old : Recorded) → lent ≡ pattern
      → map (part_of lent) ps ≡ counted used (arguments_of (node_of lent n)) (parts_of (node_of lent n))
      → map (part_of code) cs ≡ counted used (arguments_of (node_of code m)) (parts_of (node_of code m))
      → PairedSoFar inner (counted_by inner used (node_of pattern n) (node_of code m)) (bare (map (part_of pattern) ps)) (bare (map (part_of code) cs)) old old
  children-start lent ps cs old lent_is ps_are cs_are =
      let both = counted_sides used (node_of pattern n) (node_of code m) in
      paired-starts inner (counted_by inner used (node_of pattern n) (node_of code m)) (bare (map (part_of pattern) ps)) (bare (map (part_of code) cs))
      both.pattern both.code old refl
      (ap bare (subst (λ s. map (part_of s) ps ≡ counted used (arguments_of (node_of s n)) (parts_of (node_of s n))) lent_is ps_are)) (ap bare cs_are)

-- lists that are not as long don't pair
pub unequal : (inner : Binder) (ps cs : List Part) → (length ps ≡ length cs → ⊥) → pairs_by inner ps cs ≡ None
unequal inner [] [] differ = absurd (differ refl)
unequal inner [] (c ∷ cs) differ = refl
unequal inner (p ∷ ps) [] differ = refl
unequal inner (p ∷ ps) (c ∷ cs) differ =
    ap (joined (pair_by inner p c)) (unequal inner ps cs (λ same. differ (ap suc same))) ∙ lacking (pair_by inner p c)

-- ** Whether a node matches.

-- what is known of a node that is matched by its parts
pub record IsByParts (rule : ResolvedRule) (p : Node) : Type 0 where
  pub none : placeholder_at rule.names p ≡ None
  pub no_tree : is_token_tree p ≡ false
  pub plain : is_plain rule p ≡ true

no_placeholder : (o : Option ℕ) → is_none o ≡ true → o ≡ None
no_placeholder None is = refl
no_placeholder (Some i) is = let e : false ≡ true = is in cc

pub parts_of_it : (rule : ResolvedRule) (p : Node) → is_by_parts rule p ≡ true → IsByParts rule p
parts_of_it rule p is =
    let first = and_parts (is_none (placeholder_at rule.names p)) (not (is_token_tree p) && is_plain rule p) is in
    let rest = and_parts (not (is_token_tree p)) (is_plain rule p) first.1 in
    record { none = no_placeholder (placeholder_at rule.names p) first.0; no_tree = not-true (is_token_tree p) rest.0; plain = rest.1 }

pub by_parts : (rule : ResolvedRule) (p : Node) → placeholder_at rule.names p ≡ None → is_token_tree p ≡ false → is_plain rule p ≡ true → is_by_parts rule p ≡ true
by_parts rule p none no_tree plain =
    and_from (is_none (placeholder_at rule.names p)) (not (is_token_tree p) && is_plain rule p) (ap is_none none)
    (and_from (not (is_token_tree p)) (is_plain rule p) (ap not no_tree) plain)

module _ (names : Bool) (ms : Meanings) (tree : ℕ) (rule : ResolvedRule) where
  -- what is told of a node that is no placeholder
  abbrev rest_of : Node → Node → Option (List Binding)
  rest_of p c = other_by names ms tree rule (bindings_in names ms tree rule) (is_token_tree p) (is_plain rule p) p c

  pub bindings-placeholder : (p c : Node) (i : ℕ) → placeholder_at rule.names p ≡ Some i
      → bindings_in names ms tree rule p c ≡ placeholder_by rule i c
  bindings-placeholder p c i is = bindings_step names ms tree rule p c ∙ ap (λ o. node_by rule o (rest_of p c) c) is

  bindings-other : (p c : Node) (is_tree_node plain : Bool) → placeholder_at rule.names p ≡ None → is_token_tree p ≡ is_tree_node → is_plain rule p ≡ plain
      → bindings_in names ms tree rule p c ≡ other_by names ms tree rule (bindings_in names ms tree rule) is_tree_node plain p c
  bindings-other p c is_tree_node plain none tree_is plain_is =
      bindings_step names ms tree rule p c
      ∙ ap (λ o. node_by rule o (rest_of p c) c) none
      ∙ ap (λ b. other_by names ms tree rule (bindings_in names ms tree rule) b (is_plain rule p) p c) tree_is
      ∙ ap (λ b. other_by names ms tree rule (bindings_in names ms tree rule) is_tree_node b p c) plain_is

  pub bindings-trees : (p c : Node) → placeholder_at rule.names p ≡ None → is_token_tree p ≡ true → bindings_in names ms tree rule p c ≡ tree_by rule p c
  bindings-trees p c none is = bindings-other p c true (is_plain rule p) none is refl

  pub bindings-spoiled : (p c : Node) → placeholder_at rule.names p ≡ None → is_token_tree p ≡ false → is_plain rule p ≡ false → bindings_in names ms tree rule p c ≡ None
  bindings-spoiled p c none is plain = bindings-other p c false false none is plain

  -- by the parts that have to pair
  pub bindings-parts : (p c : Node) (o : Option Sides) → placeholder_at rule.names p ≡ None → is_token_tree p ≡ false → is_plain rule p ≡ true
      → sides_of names ms tree rule p c ≡ o → bindings_in names ms tree rule p c ≡ option_and_then (sides_by (bindings_in names ms tree rule)) o
  bindings-parts p c o none is plain sides =
      bindings-other p c false true none is plain ∙ ap (option_and_then (sides_by (bindings_in names ms tree rule))) sides

  pub bindings-sides : (p c : Node) (o : Option Sides) → is_by_parts rule p ≡ true → sides_of names ms tree rule p c ≡ o
      → bindings_in names ms tree rule p c ≡ option_and_then (sides_by (bindings_in names ms tree rule)) o
  bindings-sides p c o by_parts sides =
      let it = parts_of_it rule p by_parts in bindings-parts p c o it.none it.no_tree it.plain sides

  pub like-tested : (p c : Node) (used : Option Res) (b : Bool) → pattern_res rule p ≡ used
      → (same_kind p.kind c.kind && can_match names ms tree rule used p c) ≡ b
      → like_sides names ms tree rule p c ≡ cond b (like_pairs names ms tree rule used p c) None
  like-tested p c used b is can =
      ap (λ used. cond (same_kind p.kind c.kind && can_match names ms tree rule used p c) (like_pairs names ms tree rule used p c) None) is
      ∙ ap (λ b. cond b (like_pairs names ms tree rule used p c) None) can

  -- ** A node that has to be of the kind.

  -- what the code asks of both nodes: it goes over the pattern that the rule lends
  pub record AreAsked (lent pattern code : Syntax) (n : NodeNo) (m : ℕ) (pk ck : SyntaxKind) (used : Option Res) : Type 0 where
    pub lent_is : lent ≡ pattern
    pub p_in : HasNode pattern n.0
    pub pk_is : pk ≡ (node_of lent n.0).kind
    pub ck_is : ck ≡ (node_of code m).kind
    pub used_is : used ≡ res_at rule.pattern_paths n

  module _ (lent pattern code : Syntax) (n : NodeNo) (m : ℕ) (pk ck : SyntaxKind) (used : Option Res)
      (asked : AreAsked lent pattern code n m pk ck used) where
    kinds_are : same_kind (node_of pattern n.0).kind (node_of code m).kind ≡ same_kind pk ck
    kinds_are =
        ap (λ s. same_kind (node_of s n.0).kind (node_of code m).kind) (sym asked.lent_is)
        ∙ ap (λ k. same_kind k (node_of code m).kind) (sym asked.pk_is)
        ∙ ap (same_kind pk) (sym asked.ck_is)

    res_is : pattern_res rule (node_of pattern n.0) ≡ used
    res_is = ap (λ k. res_at rule.pattern_paths (record { 0 = k })) (node_of-number pattern n.0 asked.p_in) ∙ sym asked.used_is

    pub other_kind-from : (old : Recorded) (b : Bool) → b ≡ same_kind pk ck → b ≡ false
        → Answers (option_and_then (sides_by (bindings_in names ms tree rule)) (like_sides names ms tree rule (node_of pattern n.0) (node_of code m))) old old false
    other_kind-from old b b_is differs =
        let unlike = ap (λ b. b && can_match names ms tree rule used (node_of pattern n.0) (node_of code m)) (kinds_are ∙ sym b_is ∙ differs) in
        other refl
        (ap (option_and_then (sides_by (bindings_in names ms tree rule)))
        (like-tested (node_of pattern n.0) (node_of code m) used false res_is unlike))

    -- of one kind, by whether they can match
    by_can : (b d : Bool) → b ≡ same_kind pk ck → b ≡ true → d ≡ can_match names ms tree rule used (node_of pattern n.0) (node_of code m)
        → like_sides names ms tree rule (node_of pattern n.0) (node_of code m)
        ≡ cond d (like_pairs names ms tree rule used (node_of pattern n.0) (node_of code m)) None
    by_can b d b_is same d_is =
        like-tested (node_of pattern n.0) (node_of code m) used d res_is
        (ap (λ b. b && can_match names ms tree rule used (node_of pattern n.0) (node_of code m)) (kinds_are ∙ sym b_is ∙ same) ∙ sym d_is)

    -- they don't match where their parts don't pair, whatever they can match
    pub unpaired-from : (old new : Recorded) (a b : Bool) → b ≡ same_kind pk ck → b ≡ true → a ≡ false
        → Answers (option_and_then (sides_by (bindings_in names ms tree rule)) (like_pairs names ms tree rule used (node_of pattern n.0) (node_of code m))) old new a
        → Answers (option_and_then (sides_by (bindings_in names ms tree rule)) (like_sides names ms tree rule (node_of pattern n.0) (node_of code m))) old new false
    unpaired-from old new a b b_is same failed answers =
        let d = can_match names ms tree rule used (node_of pattern n.0) (node_of code m) in
        other refl (ap (option_and_then (sides_by (bindings_in names ms tree rule))) (by_can b d b_is same refl) ∙ by d (unmatched _ old new a failed answers))
      where
        by : (d : Bool) → option_and_then (sides_by (bindings_in names ms tree rule)) (like_pairs names ms tree rule used (node_of pattern n.0) (node_of code m)) ≡ None
            → option_and_then (sides_by (bindings_in names ms tree rule))
            (cond d (like_pairs names ms tree rule used (node_of pattern n.0) (node_of code m)) None)
            ≡ None
        by true none = none
        by false none = refl

    -- where these pair, they match if they can
    pub paired-from : (old new : Recorded) (a b d : Bool) → b ≡ same_kind pk ck → b ≡ true → a ≡ true
        → d ≡ can_match names ms tree rule used (node_of pattern n.0) (node_of code m)
        → Answers (option_and_then (sides_by (bindings_in names ms tree rule)) (like_pairs names ms tree rule used (node_of pattern n.0) (node_of code m))) old new a
        → Answers (option_and_then (sides_by (bindings_in names ms tree rule)) (like_sides names ms tree rule (node_of pattern n.0) (node_of code m))) old new d
    paired-from old new a b d b_is same paired d_is answers =
        subst (λ o. Answers (option_and_then (sides_by (bindings_in names ms tree rule)) o) old new d) (sym (by_can b d b_is same d_is))
        (by d (subst (Answers _ old new) paired answers))
      where
        by : (d : Bool)
            → Answers (option_and_then (sides_by (bindings_in names ms tree rule)) (like_pairs names ms tree rule used (node_of pattern n.0) (node_of code m))) old new true
            → Answers
            (option_and_then (sides_by (bindings_in names ms tree rule))
            (cond d (like_pairs names ms tree rule used (node_of pattern n.0) (node_of code m)) None))
            old new d
        by true answers = answers
        by false answers = other refl refl

  -- ** The parts of such a node.

  all_kept : (o : Option (List Binding)) → option_map (kept None) o ≡ o
  all_kept None = refl
  all_kept (Some bs) = refl

  -- what counts of both nodes, where they don't pair by names
  counted-from : {E : Type 0} (result : Result Bool E) (p c : Node) (used : Option Res) (old new : Recorded)
      → like_pairs names ms tree rule used p c ≡ Some (counted_sides used p c)
      → IfOk result (λ b. Answers (counted_by (bindings_in names ms tree rule) used p c) old new b)
      → IfOk result (λ b. Answers (option_and_then (sides_by (bindings_in names ms tree rule)) (like_pairs names ms tree rule used p c)) old new b)
  counted-from result p c used old new is answers =
      subst (λ o. IfOk result (λ b. Answers o old new b))
      (sym (ap (option_and_then (sides_by (bindings_in names ms tree rule))) is ∙ all_kept (counted_by (bindings_in names ms tree rule) used p c)))
      answers

  pub used-from : {E : Type 0} (result : Result Bool E) (p c : Node) (used : Option Res) (r : Res) (old new : Recorded) → used ≡ Some r
      → IfOk result (λ b. Answers (counted_by (bindings_in names ms tree rule) (Some r) p c) old new b)
      → IfOk result (λ b. Answers (option_and_then (sides_by (bindings_in names ms tree rule)) (like_pairs names ms tree rule used p c)) old new b)
  used-from result p c used r old new is answers =
      subst (λ used. IfOk result (λ b. Answers (option_and_then (sides_by (bindings_in names ms tree rule)) (like_pairs names ms tree rule used p c)) old new b)) (sym is)
      (counted-from result p c (Some r) old new refl answers)

  pub unnamed-from : {E : Type 0} (result : Result Bool E) (p c : Node) (used : Option Res) (old new : Recorded) → used ≡ None
      → false ≡ is_named rule p c
      → IfOk result (λ b. Answers (counted_by (bindings_in names ms tree rule) used p c) old new b)
      → IfOk result (λ b. Answers (option_and_then (sides_by (bindings_in names ms tree rule)) (like_pairs names ms tree rule used p c)) old new b)
  unnamed-from result p c used old new is unnamed answers =
      counted-from result p c used old new
      (ap (λ used. like_pairs names ms tree rule used p c) is
      ∙ ap (λ b. cond b (option_map (named_pairs p) (named_nodes p c)) (Some (counted_sides None p c))) (sym unnamed)
      ∙ ap (λ used. Some (counted_sides used p c)) (sym is)) answers

  pub named-from : {E : Type 0} (result : Result Bool E) (p c : Node) (used : Option Res) (old new : Recorded) → used ≡ None
      → true ≡ is_named rule p c
      → IfOk result (λ b. Answers (option_and_then (sides_by (bindings_in names ms tree rule)) (option_map (named_pairs p) (named_nodes p c))) old new b)
      → IfOk result (λ b. Answers (option_and_then (sides_by (bindings_in names ms tree rule)) (like_pairs names ms tree rule used p c)) old new b)
  named-from result p c used old new is by_names answers =
      subst (λ o. IfOk result (λ b. Answers (option_and_then (sides_by (bindings_in names ms tree rule)) o) old new b))
      (sym
      (ap (λ used. like_pairs names ms tree rule used p c) is
      ∙ ap (λ b. cond b (option_map (named_pairs p) (named_nodes p c)) (Some (counted_sides None p c))) (sym by_names)))
      answers

  -- ** Any node.

  no_call : (p c : Node) (o : Option QualifiedCall) (b : Bool) → (is_some o && b) ≡ false → sides_in names ms tree rule o b p c ≡ like_sides names ms tree rule p c
  no_call p c (Some call) true none = let e : true ≡ false = none in cc
  no_call p c (Some call) false none = refl
  no_call p c None b none = refl

  -- what is asked of a node that is no placeholder and no token tree
  module _ {E : Type 0} (result : Result Bool E) (pattern code : Syntax) (n : NodeNo) (m : ℕ) (old new : Recorded) (has : HasNode pattern n.0) where
    abbrev AnswersSides : Option Sides → Type 0
    AnswersSides sides = IfOk result (λ b. Answers (option_and_then (sides_by (bindings_in names ms tree rule)) sides) old new b)

    by_call : (o : Option QualifiedCall) (is_method : Bool) → o ≡ call_at rule.qualified_calls n
        → is_method ≡ same_kind (node_of code m).kind k.METHOD_CALL_EXPR
        → AnswersSides (sides_in names ms tree rule o is_method (node_of pattern n.0) (node_of code m))
        → AnswersSides (sides_of names ms tree rule (node_of pattern n.0) (node_of code m))
    by_call o is_method o_is method_is answers =
        let p = node_of pattern n.0 in
        let c = node_of code m in
        subst AnswersSides
        (sym
        (ap (λ number. sides_in names ms tree rule (call_at rule.qualified_calls (record { 0 = number })) (same_kind c.kind k.METHOD_CALL_EXPR) p c)
        (node_of-number pattern n.0 has)
        ∙ ap (λ o. sides_in names ms tree rule o (same_kind c.kind k.METHOD_CALL_EXPR) p c) (sym o_is)
        ∙ ap (λ is_method. sides_in names ms tree rule o is_method p c) (sym method_is)))
        answers

    -- no qualified call meets a method call
    pub like-from : (o : Option QualifiedCall) (is_method : Bool) → o ≡ call_at rule.qualified_calls n
        → is_method ≡ same_kind (node_of code m).kind k.METHOD_CALL_EXPR → (is_some o && is_method) ≡ false
        → AnswersSides (like_sides names ms tree rule (node_of pattern n.0) (node_of code m))
        → AnswersSides (sides_of names ms tree rule (node_of pattern n.0) (node_of code m))
    like-from o is_method o_is method_is unmet answers =
        by_call o is_method o_is method_is (subst AnswersSides (sym (no_call (node_of pattern n.0) (node_of code m) o is_method unmet)) answers)

    -- one does
    pub method-from : (call : QualifiedCall) → Some call ≡ call_at rule.qualified_calls n → true ≡ same_kind (node_of code m).kind k.METHOD_CALL_EXPR
        → AnswersSides (method_sides ms tree rule call (node_of pattern n.0) (node_of code m))
        → AnswersSides (sides_of names ms tree rule (node_of pattern n.0) (node_of code m))
    method-from call is is_method answers = by_call (Some call) true is is_method answers

  -- ** Any node.

  -- a node that is no placeholder
  module _ (pattern code : Syntax) (n m : ℕ) (old : Recorded) (placeholder : Option ℕ)
      (at : placeholder ≡ placeholder_at rule.names (node_of pattern n)) (none : (i : ℕ) → placeholder ≡ Some i → ⊥) where
    pub trees-from : {E : Type 0} (result : Result Bool E) (new : Recorded) (b : Bool) → b ≡ is_token_tree (node_of pattern n) → b ≡ true
        → IfOk result (λ b. Answers (tree_by rule (node_of pattern n) (node_of code m)) old new b)
        → IfOk result (λ b. Answers (bindings_in names ms tree rule (node_of pattern n) (node_of code m)) old new b)
    trees-from result new b b_is is answers =
        subst (λ o. IfOk result (λ b. Answers o old new b))
        (sym (bindings-trees (node_of pattern n) (node_of code m) (sym at ∙ none_there placeholder none) (sym b_is ∙ is))) answers

    pub spoiled-from : (b d : Bool) → b ≡ is_token_tree (node_of pattern n) → b ≡ false → d ≡ is_plain rule (node_of pattern n) → d ≡ false
        → Answers (bindings_in names ms tree rule (node_of pattern n) (node_of code m)) old old false
    spoiled-from b d b_is is d_is spoiled =
        other refl
        (bindings-spoiled (node_of pattern n) (node_of code m) (sym at ∙ none_there placeholder none) (sym b_is ∙ is) (sym d_is ∙ spoiled))

    pub parts-from : {E : Type 0} (result : Result Bool E) (new : Recorded) (b d : Bool) → b ≡ is_token_tree (node_of pattern n) → b ≡ false → d ≡ is_plain rule (node_of pattern n) → d ≡ true
        → IfOk result (λ b. Answers (option_and_then (sides_by (bindings_in names ms tree rule)) (sides_of names ms tree rule (node_of pattern n) (node_of code m))) old new b)
        → IfOk result (λ b. Answers (bindings_in names ms tree rule (node_of pattern n) (node_of code m)) old new b)
    parts-from result new b d b_is is d_is plain answers =
        let p = node_of pattern n in
        let c = node_of code m in
        subst (λ o. IfOk result (λ b. Answers o old new b))
        (sym (bindings-parts p c (sides_of names ms tree rule p c) (sym at ∙ none_there placeholder none) (sym b_is ∙ is) (sym d_is ∙ plain) refl)) answers

  -- ** Whether a node of the kind can match.

  pub can-used : (code : Syntax) (p : Node) (m : ℕ) (used : Option Res) (r : Res) (b : Bool) → HasNode code m → used ≡ Some r
      → b ≡ stands_if names r (ms.path (node_id tree m)) → b ≡ can_match names ms tree rule used p (node_of code m)
  can-used code p m used r b has used_is b_is =
      b_is
      ∙ ap (λ number. stands_if names r (ms.path (node_id tree number))) (sym (node_of-number code m has))
      ∙ ap (λ used. can_match names ms tree rule used p (node_of code m)) (sym used_is)

  pub can-call : (pattern : Syntax) (n : NodeNo) (c : Node) (used : Option Res) (o : Option QualifiedCall) (b : Bool) → HasNode pattern n.0 → used ≡ None
      → o ≡ call_at rule.qualified_calls n → b ≡ can_be_call ms tree o c → b ≡ can_match names ms tree rule used (node_of pattern n.0) c
  can-call pattern n c used o b has used_is o_is b_is =
      b_is
      ∙ ap (λ o. can_be_call ms tree o c)
      (o_is ∙ ap (λ number. call_at rule.qualified_calls (record { 0 = number })) (sym (node_of-number pattern n.0 has)))
      ∙ ap (λ used. can_match names ms tree rule used (node_of pattern n.0) c) (sym used_is)

  -- a placeholder, as it is answered alone
  pub placeholder-from : {E : Type 0} (result : Result Bool E) (pattern code : Syntax) (n m : ℕ) (old new : Recorded) (i : ℕ)
      → Some i ≡ placeholder_at rule.names (node_of pattern n) → IfOk result (λ b. Answers (placeholder_by rule i (node_of code m)) old new b)
      → IfOk result (λ b. Answers (bindings_in names ms tree rule (node_of pattern n) (node_of code m)) old new b)
  placeholder-from result pattern code n m old new i at answers =
      subst (λ o. IfOk result (λ b. Answers o old new b)) (sym (bindings-placeholder (node_of pattern n) (node_of code m) i (sym at))) answers

  pub tokens-answer : (pattern lent code : Syntax) (p c : Element) (t u : TokenNo) (old : Recorded) (b : Bool)
      → p ≡ element.Token t → c ≡ element.Token u → lent ≡ pattern
      → b ≡ (same_kind (token_of lent t.0).kind (token_of code u.0).kind && bytes_eq (token_of lent t.0).text (token_of code u.0).text)
      → Answers (pair_by (bindings_in names ms tree rule) (part_of pattern p) (part_of code c)) old old b
  tokens-answer pattern lent code p c t u old b p_is c_is lent_is b_is =
      rw (p_is, c_is)
      (tested_answer
      (same_kind (token_of pattern t.0).kind (token_of code u.0).kind && bytes_eq (token_of pattern t.0).text (token_of code u.0).text)
      old
      b
      (b_is ∙ ap (λ s. same_kind (token_of s t.0).kind (token_of code u.0).kind && bytes_eq (token_of s t.0).text (token_of code u.0).text) lent_is))
