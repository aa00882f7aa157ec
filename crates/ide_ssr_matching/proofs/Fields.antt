-- What lists of fields bind that match by labels.
use Rattle.std.proofs.Common.{◌≡◌, ℕ, Bool, true, false, ◌&&◌, cond, List, [], ◌∷◌, length, map, Option, Some, None, refl, sym, ◌∙◌, ap, subst}
use Rattle.std.specs.Prelude.{◌==◌}
use Rattle.std.specs.List.{find}
use Rattle.std.specs.Option.{option_and_then, option_map}
use Rattle.ssr_syntax_tree.specs.declared.number.NodeNo.{NodeNo}
use Rattle.ssr_syntax_tree.specs.Syntax.{Syntax}
use Rattle.ssr_syntax_tree.specs.Places.{Node, node_part, node_of}
use Rattle.ide_ssr_bindings.specs.declared.bindings.Binding.{Binding}
use Rattle.ide_ssr_token_trees.specs.Bindings.{joined, Answers, other}
use Rattle.ide_ssr_token_trees.specs.Recording.{Recorded}
use Rattle.ide_ssr_matching.specs.Bindings.{Binder, pairs_by, sides_by}
use Rattle.ide_ssr_matching.specs.Calls.{child_nodes}
use Rattle.ide_ssr_matching.specs.Records.{all_some, have_same_label, are_different, named_nodes, named_pairs}
use Rattle.ide_ssr_matching.specs.Sides.{kept}
use Rattle.ide_ssr_matching.specs.Private.ChildNodes.{nodes_at}
use Rattle.ide_ssr_matching.specs.Private.Records.{fields_by}
use Rattle.ide_ssr_matching.proofs.Pairs.{IsBoundSoFar, bound-starts, bound-turns, bound-ends, lacking, unmatched}

-- ** Fields by their labels.

module _ (inner : Binder) where
  abbrev pairs_of : List Node → List Node → Option (List Binding)
  pairs_of ps nodes = pairs_by inner (map node_part ps) (map node_part nodes)

  fields_paired : (cs ps : List Node) → option_and_then (pairs_of ps) (all_some (map (λ p. find (have_same_label p) cs) ps)) ≡ fields_by inner ps cs
  fields_paired cs [] = refl
  fields_paired cs (p ∷ ps) = by (find (have_same_label p) cs) (fields_paired cs ps)
    where
      rest : List (Option Node)
      rest = map (λ p. find (have_same_label p) cs) ps

      behind : (c : Node) (all : Option (List Node)) → option_and_then (pairs_of ps) all ≡ fields_by inner ps cs
          → option_and_then (pairs_of (p ∷ ps)) (option_map (λ nodes. c ∷ nodes) all) ≡ joined (inner p c) (fields_by inner ps cs)
      behind c None later = sym (lacking (inner p c)) ∙ ap (joined (inner p c)) later
      behind c (Some nodes) later = ap (joined (inner p c)) later

      by : (o : Option Node) → option_and_then (pairs_of ps) (all_some rest) ≡ fields_by inner ps cs
          → option_and_then (pairs_of (p ∷ ps)) (all_some (o ∷ rest)) ≡ joined (option_and_then (inner p) o) (fields_by inner ps cs)
      by None later = refl
      by (Some c) later = behind c (all_some rest) later

  named_are : (p : Node) (o : Option (List Node))
      → option_and_then (sides_by inner) (option_map (named_pairs p) o) ≡ option_and_then (pairs_of (child_nodes p)) o
  named_are p None = refl
  named_are p (Some nodes) = by (pairs_of (child_nodes p) nodes)
    where
      by : (o : Option (List Binding)) → option_map (kept None) o ≡ o
      by None = refl
      by (Some bs) = refl

  -- lists of fields bind what their fields do, if they are as long, and no label is there twice
  module _ (p c : Node) (b : Bool)
      (is : (are_different (child_nodes p) && (are_different (child_nodes c) && length (child_nodes p) == length (child_nodes c))) ≡ b) where
    pub named_by_fields : option_and_then (sides_by inner) (option_map (named_pairs p) (named_nodes p c)) ≡ cond b (fields_by inner (child_nodes p) (child_nodes c)) None
    named_by_fields =
        named_are p (named_nodes p c)
        ∙ ap (λ b. option_and_then (pairs_of (child_nodes p)) (cond b (all_some (map (λ p. find (have_same_label p) (child_nodes c)) (child_nodes p))) None)) is
        ∙ by b
      where
        by : (b : Bool)
            → option_and_then (pairs_of (child_nodes p)) (cond b (all_some (map (λ p. find (have_same_label p) (child_nodes c)) (child_nodes p))) None)
            ≡ cond b (fields_by inner (child_nodes p) (child_nodes c)) None
        by true = fields_paired (child_nodes c) (child_nodes p)
        by false = refl

  module _ (pattern code : Syntax) (n m : ℕ) (old new : Recorded) where
    abbrev ps : List Node
    ps = child_nodes (node_of pattern n)

    abbrev cs : List Node
    cs = child_nodes (node_of code m)

    abbrev AnswersNamed : Bool → Type 0
    AnswersNamed b = Answers (option_and_then (sides_by inner) (option_map (named_pairs (node_of pattern n)) (named_nodes (node_of pattern n) (node_of code m)))) old new b

    pub named-differs : (b : Bool) → Answers (fields_by inner ps cs) old new b → b ≡ false → AnswersNamed false
    named-differs b answers fails =
        let test = are_different ps && (are_different cs && length ps == length cs) in
        other refl (named_by_fields (node_of pattern n) (node_of code m) test refl ∙ by test (unmatched (fields_by inner ps cs) old new b fails answers))
      where
        by : (test : Bool) → fields_by inner ps cs ≡ None → cond test (fields_by inner ps cs) None ≡ None
        by true none = none
        by false none = refl

    pub named-matches : (lent : Syntax) (b d e f : Bool) → lent ≡ pattern → d ≡ (length (child_nodes (node_of lent n)) == length cs) → d ≡ true
        → e ≡ are_different (child_nodes (node_of lent n)) → e ≡ true → f ≡ are_different cs → Answers (fields_by inner ps cs) old new b → b ≡ true
        → AnswersNamed f
    named-matches lent b d e f lent_is d_is long e_is differ f_is answers holds =
        let as_long = ap (λ s. length (child_nodes (node_of s n)) == length cs) (sym lent_is) ∙ sym d_is ∙ long in
        let different = ap (λ s. are_different (child_nodes (node_of s n))) (sym lent_is) ∙ sym e_is ∙ differ in
        subst (λ o. Answers o old new f)
        (sym
        (named_by_fields (node_of pattern n) (node_of code m) f
        (ap (λ b. b && (are_different cs && length ps == length cs)) different
        ∙ ap (λ b. are_different cs && b) as_long ∙ and_true (are_different cs) ∙ sym f_is)))
        (by f (subst (Answers (fields_by inner ps cs) old new) holds answers))
      where
        and_true : (b : Bool) → (b && true) ≡ b
        and_true true = refl
        and_true false = refl

        by : (test : Bool) → Answers (fields_by inner ps cs) old new true → Answers (cond test (fields_by inner ps cs) None) old new test
        by true answers = answers
        by false answers = other refl refl

  -- ** Fields one after the other.

  module _ (pattern : Syntax) (cs : List Node) where
    pub fields-starts : (n : ℕ) (left : List NodeNo) (old : Recorded) → nodes_at pattern left ≡ child_nodes (node_of pattern n)
        → IsBoundSoFar (fields_by inner (child_nodes (node_of pattern n)) cs) (fields_by inner (nodes_at pattern left) cs) old old
    fields-starts n left old are =
        let whole = fields_by inner (child_nodes (node_of pattern n)) cs in
        subst (λ rest. IsBoundSoFar whole rest old old) (ap (λ ps. fields_by inner ps cs) (sym are)) (bound-starts whole old)

    module _ (whole : Option (List Binding)) (old out : Recorded) where
      module _ (field : NodeNo) (left behind : List NodeNo) (steps : left ≡ field ∷ behind)
          (so_far : IsBoundSoFar whole (fields_by inner (nodes_at pattern left) cs) old out) where
        at_front : (o : Option Node) → o ≡ find (have_same_label (node_of pattern field.0)) cs
            → IsBoundSoFar whole (joined (option_and_then (inner (node_of pattern field.0)) o) (fields_by inner (nodes_at pattern behind) cs)) old out
        at_front o is =
            subst (λ rest. IsBoundSoFar whole rest old out)
            (ap (λ left. fields_by inner (nodes_at pattern left) cs) steps
            ∙ ap (λ o. joined (option_and_then (inner (node_of pattern field.0)) o) (fields_by inner (nodes_at pattern behind) cs)) (sym is))
            so_far

        module _ (c : Node) (is : Some c ≡ find (have_same_label (node_of pattern field.0)) cs) (new : Recorded) (b : Bool)
            (answers : Answers (inner (node_of pattern field.0) c) out new b) where
          pub fields-turn : b ≡ true → IsBoundSoFar whole (fields_by inner (nodes_at pattern behind) cs) old new
          fields-turn holds = bound-turns whole old out (inner (node_of pattern field.0) c) (fields_by inner (nodes_at pattern behind) cs) new b (at_front (Some c) is) answers holds

      pub fields-end : (left : List NodeNo) → left ≡ [] → IsBoundSoFar whole (fields_by inner (nodes_at pattern left) cs) old out → Answers whole old out true
      fields-end left none so_far =
          bound-ends whole old out (subst (λ left. IsBoundSoFar whole (fields_by inner (nodes_at pattern left) cs) old out) none so_far)
