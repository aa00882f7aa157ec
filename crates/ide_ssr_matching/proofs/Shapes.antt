-- What the first phase accepts: it refuses nothing that matches.
use Rattle.std.proofs.Common.{◌≡◌, ◌↔◌, IsTrue, ℕ, Bool, true, false, List, Option, Some, None, is_some, refl, sym, ◌∙◌, ap, subst}
use Rattle.ssr_syntax_tree.specs.Places.{Node, Part}
use Rattle.ssr_base_trees.specs.Meanings.{Meanings}
use Rattle.ide_ssr_resolved_rule.specs.Resolved.{ResolvedRule}
use Rattle.ide_ssr_bindings.specs.declared.bindings.Binding.{Binding}
use Rattle.ide_ssr_matching.specs.Bindings.{bindings_in, bindings_of}
use Rattle.ide_ssr_matching.specs.Matching.{Relates, Matches, bound, token_trees, method, used, alike, PairsRelate, Pairs, end, tokens, nodes, named, HasShape}
use Rattle.ide_ssr_matching.proofs.Agreement.{bindings_in-Relates, Relates-bindings_in, bindings_of-Matches}

module _ (m : Meanings) (tree : ℕ) (rule : ResolvedRule) where
  mutual
    unnamed : (p c : Node) (bs : List Binding) → Matches m tree rule p c bs → Relates false m tree rule p c bs
    unnamed _ _ _ (bound p c i at met) = bound p c i at met
    unnamed _ _ _ (token_trees p c bs none tree_node code_tree found) = token_trees p c bs none tree_node code_tree found
    unnamed _ _ _ (method p c call sides bs by_parts called kind found pairs) =
        method p c call sides bs by_parts called kind found (unnamed_pairs sides.pattern sides.code bs pairs)
    unnamed _ _ _ (used p c r bs by_parts unmet kinds stands told arguments) =
        used p c r bs by_parts unmet kinds stands (λ asked. told refl) (unnamed_pairs _ _ bs arguments)
    unnamed _ _ _ (named p c found bs by_parts unmet kinds none can by_names found_is pairs) =
        named p c found bs by_parts unmet kinds none can by_names found_is (unnamed_pairs _ _ bs pairs)
    unnamed _ _ _ (alike p c bs by_parts unmet kinds none can other children) =
        alike p c bs by_parts unmet kinds none can other (unnamed_pairs _ _ bs children)

    unnamed_pairs : (ps cs : List Part) (bs : List Binding) → Pairs m tree rule ps cs bs → PairsRelate false m tree rule ps cs bs
    unnamed_pairs _ _ _ end = end
    unnamed_pairs _ _ _ (tokens t u p c ps cs bs kinds texts behind) = tokens t u p c ps cs bs kinds texts (unnamed_pairs ps cs bs behind)
    unnamed_pairs _ _ _ (nodes p c ps cs bs rest here behind) = nodes p c ps cs bs rest (unnamed p c bs here) (unnamed_pairs ps cs rest behind)

  pub have_shape : (p c : Node) (bs : List Binding) → Matches m tree rule p c bs → HasShape m tree rule p c
  have_shape p c bs matches = (bs, unnamed p c bs matches)

  -- where the first phase accepts nothing, nothing matches
  pub shapeless : (p c : Node) (b : Bool) → (IsTrue b ↔ HasShape m tree rule p c) → b ≡ false → None ≡ bindings_of m tree rule p c
  shapeless p c b accepts fails = by (bindings_of m tree rule p c) refl
    where
      by : (o : Option (List Binding)) → bindings_of m tree rule p c ≡ o → None ≡ o
      by None is = refl
      by (Some bs) is =
          let it : IsTrue b = accepts.1 (have_shape p c bs (bindings_of-Matches m tree rule p c bs is)) in
          let it : false ≡ true = subst IsTrue fails it in
          cc

  -- the first phase accepts what is computed without names
  pub shape-accepted : (p c : Node) (b : Bool) → b ≡ is_some (bindings_in false m tree rule p c) → IsTrue b ↔ HasShape m tree rule p c
  shape-accepted p c b b_is = (to, from)
    where
      to : IsTrue b → HasShape m tree rule p c
      to is = by (bindings_in false m tree rule p c) refl (subst IsTrue b_is is)
        where
          by : (o : Option (List Binding)) → bindings_in false m tree rule p c ≡ o → IsTrue (is_some o) → HasShape m tree rule p c
          by None o_is it = let it : false ≡ true = it in cc
          by (Some bs) o_is it = (bs, bindings_in-Relates false m tree rule p c bs o_is)

      from : HasShape m tree rule p c → IsTrue b
      from shape =
          subst IsTrue (sym (b_is ∙ ap is_some (Relates-bindings_in false m tree rule p c shape.0 shape.1))) refl
