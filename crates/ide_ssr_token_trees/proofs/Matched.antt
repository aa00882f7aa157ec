-- The elements of two token trees, one by one.
use Rattle.std.proofs.Common.{◌≡◌, ℕ, suc, ◌+◌, ◌*◌, ◌<◌, ◌^◌, Bool, true, false, List, [], ◌∷◌, ◌++◌, All, map, option_to_list, is_some, not, IfNone, Option, Some, None, refl, sym, ◌∙◌, ap, subst, arith, append_assoc, append-nil}
use Rattle.std.proofs.lemmas.List.Elements.{All-map, All-weaker}
use Rattle.ssr_syntax_tree.specs.declared.number.Element.{Element}
use Rattle.ssr_syntax_tree.specs.declared.number.Element.TheVariants as element
use Rattle.ssr_syntax_tree.specs.Syntax.{Forest, nothing, leaf, branch, Syntax, token_count, node_count}
use Rattle.ssr_syntax_tree.specs.Places.{Part, token_part, node_part, HasNode, HasToken, HasElement, IsAbove, element_of, elements_of, node_of, part_of, parts_in, parts_of, size_of}
use Rattle.ssr_syntax_tree.proofs.Shared.{IsChild, children_known, elements_had, parts_of-elements_of, smaller}
use Rattle.ide_ssr_bindings.specs.declared.bindings.Binding.{Binding}
use Rattle.ide_ssr_token_trees.specs.declared.siblings.Siblings.{Siblings}
use Rattle.ide_ssr_token_trees.specs.Bindings.{joined, passed, nothing_by, part_by, elements_by, tree_bindings, Answers, matched, other}
use Rattle.ide_ssr_token_trees.specs.Recording.{Recorded, recorded}
use Rattle.ide_ssr_token_trees.specs.Elements.{last_comma, next_text, tokens_among, without_trivia}
use Rattle.ide_ssr_token_trees.specs.Private.Matching.{goes_on, differs, ElementSteps}
use Rattle.ide_ssr_token_trees.specs.Private.Siblings.{siblings_left, parts_left, number_of, IsRest}
use Rattle.ide_ssr_token_trees.proofs.Appended.{recorded-nil, recorded-append}
use Rattle.ide_ssr_token_trees.proofs.Rests.{rest_all, rest_few}
use Rattle.ide_ssr_token_trees.proofs.Sizes.{Behind, tree_step}
use Rattle.ide_ssr_token_trees.proofs.Steps.{joined_none}

-- ** Elements below a node.

-- elements that stand below a node
abbrev pub IsBelow : Syntax → ℕ → Element → Type 0
IsBelow tree n (element.Node m) = HasNode tree m.0 × IsAbove (node_of tree n) m.0
IsBelow tree n (element.Token t) = HasToken tree t.0

element_below : (tree : Syntax) (n : ℕ) (part : Part) → IsChild tree n part → IsBelow tree n (element_of part)
element_below tree n (token_part t token) child = child.0
element_below tree n (node_part node) child = (child.0, child.3)

pub elements_below : (tree : Syntax) (n : ℕ) → HasNode tree n → All (IsBelow tree n) (elements_of (node_of tree n))
elements_below tree n has =
    All-map (IsBelow tree n) element_of (parts_of (node_of tree n))
    (All-weaker (IsChild tree n) (λ part. IsBelow tree n (element_of part)) (element_below tree n) (parts_of (node_of tree n)) (children_known tree n has))

pub below_has : (tree : Syntax) (n : ℕ) (x : Element) → IsBelow tree n x → HasElement tree x
below_has tree n (element.Node m) below = below.0
below_has tree n (element.Token t) below = below

-- how far a recursion on a pattern's elements still goes
abbrev pub element_size : Syntax → Element → ℕ
element_size tree (element.Node n) = 1 + 2 * size_of (node_of tree n.0)
element_size tree (element.Token t) = 0

pub element_smaller : (tree : Syntax) (n : ℕ) (x : Element) → HasNode tree n → IsBelow tree n x → element_size tree x < 2 * size_of (node_of tree n)
element_smaller tree n (element.Node m) has below = let less = smaller tree n m.0 has below.1 in omega arith
element_smaller tree n (element.Token t) has below = omega arith

tokens_in_parts : (parent m t : ℕ) (forest : Forest) → tokens_among (parts_in parent m t forest) ≡ token_count forest
tokens_in_parts parent m t nothing = refl
tokens_in_parts parent m t (leaf token next) = omega (arith, tokens_in_parts parent m (1 + t) next)
tokens_in_parts parent m t (branch kind below next) = omega (arith, tokens_in_parts parent (1 + m + node_count below) (t + token_count below) next)

-- ** Bindings so far.

negated : {b : Bool} (answer : Bool) → b ≡ not answer → answer ≡ not b
negated true is = ap not (sym is)
negated false is = ap not (sym is)

joined_more : (found bs : List Binding) (o : Option (List Binding)) → joined (Some found) (joined (Some bs) o) ≡ joined (Some (found ++ bs)) o
joined_more found bs None = refl
joined_more found bs (Some rest) = ap Some (sym (append_assoc found bs rest))

module _ (at : ℕ → Option ℕ) (pattern code : Syntax) where
  -- what the elements that are left bind
  abbrev pub left_by : Siblings → Siblings → Option (List Binding)
  left_by ps cs =
      elements_by at (tree_bindings at) (number_of ps.comma) (number_of cs.comma) (without_trivia (parts_left pattern ps)) (parts_left code cs)

  pub record MatchedSoFar (p c : ℕ) (ps cs : Siblings) (old new : Recorded) : Type 0 where
    pub found : List Binding
    pub new_is : new ≡ recorded old found
    pub whole : tree_bindings at (node_of pattern p) (node_of code c) ≡ joined (Some found) (left_by ps cs)
    pub below : All (IsBelow pattern p) (siblings_left ps)
    pub has : All (HasElement code) (siblings_left cs)
    pub few : tokens_among (parts_left code cs) < 2 ^ 32

  module _ (p c : ℕ) where
    pub match_starts : (ps cs : Siblings) (out : Recorded) → HasNode pattern p → HasNode code c
        → siblings_left ps ≡ elements_of (node_of pattern p) → number_of ps.comma ≡ last_comma (parts_of (node_of pattern p))
        → siblings_left cs ≡ elements_of (node_of code c) → number_of cs.comma ≡ last_comma (parts_of (node_of code c))
        → token_count (node_of code c).children < 2 ^ 32 → MatchedSoFar p c ps cs out out
    match_starts ps cs out has_p has_c ps_is p_comma cs_is c_comma few =
        let qs : parts_left pattern ps ≡ parts_of (node_of pattern p) = ap (map (part_of pattern)) ps_is ∙ parts_of-elements_of pattern p has_p in
        let ds : parts_left code cs ≡ parts_of (node_of code c) = ap (map (part_of code)) cs_is ∙ parts_of-elements_of code c has_c in
        let tokens : tokens_among (parts_left code cs) ≡ token_count (node_of code c).children =
        ap tokens_among ds ∙ tokens_in_parts (node_of code c).number (1 + (node_of code c).number) (node_of code c).first (node_of code c).children
        in
        record {
          found = [];
          new_is = sym (recorded-nil out);
          whole =
              tree_step at (node_of pattern p) (node_of code c)
              ∙ ap (λ x. elements_by at (tree_bindings at) x (last_comma (parts_of (node_of code c))) (without_trivia (parts_of (node_of pattern p))) (parts_of (node_of code c))) (sym p_comma)
              ∙ ap (λ y. elements_by at (tree_bindings at) (number_of ps.comma) y (without_trivia (parts_of (node_of pattern p))) (parts_of (node_of code c))) (sym c_comma)
              ∙ ap (λ qs. elements_by at (tree_bindings at) (number_of ps.comma) (number_of cs.comma) (without_trivia qs) (parts_of (node_of code c))) (sym qs)
              ∙ ap (λ ds. elements_by at (tree_bindings at) (number_of ps.comma) (number_of cs.comma) (without_trivia (parts_left pattern ps)) ds) (sym ds)
              ∙ sym (joined_none (left_by ps cs));
          below = subst (All (IsBelow pattern p)) (sym ps_is) (elements_below pattern p has_p);
          has = subst (All (HasElement code)) (sym cs_is) (elements_had code c has_c);
          few = omega (arith, tokens);
        }

    -- the next element of the pattern came, of which `qs` are left
    module _ (ps qs cs : Siblings) (x : Element) (old new : Recorded) (so_far : MatchedSoFar p c ps cs old new)
        (gives : without_trivia (parts_left pattern ps) ≡ part_of pattern x ∷ without_trivia (parts_left pattern qs)) (rest : IsRest ps (x ∷ []) qs) where
      pub came_below : IsBelow pattern p x
      came_below = rest_all (IsBelow pattern p) ps qs (x ∷ []) rest so_far.below 0 x (omega arith)

      pub came_rest : All (IsBelow pattern p) (siblings_left qs)
      came_rest = λ i d less. rest_all (IsBelow pattern p) ps qs (x ∷ []) rest so_far.below (suc i) d (omega arith)

      pub came_has : All (HasElement pattern) (siblings_left qs)
      came_has = All-weaker (IsBelow pattern p) (HasElement pattern) (below_has pattern p) (siblings_left qs) came_rest

      behind_it : Behind
      behind_it = elements_by at (tree_bindings at) (number_of qs.comma) (number_of cs.comma) (without_trivia (parts_left pattern qs))

      first_is : left_by ps cs
          ≡ part_by at (tree_bindings at) (number_of qs.comma) (number_of cs.comma) (part_of pattern x) (next_text (without_trivia (parts_left pattern qs))) behind_it (parts_left code cs)
      unfolding behind_it
      first_is =
          ap (λ comma. elements_by at (tree_bindings at) (number_of comma) (number_of cs.comma) (without_trivia (parts_left pattern ps)) (parts_left code cs)) rest.comma
          ∙ ap (λ parts. elements_by at (tree_bindings at) (number_of qs.comma) (number_of cs.comma) parts (parts_left code cs)) gives

      pub match_turns : (rs ds : Siblings) (newer : Recorded) → ElementSteps at pattern x qs code cs ds new newer true
          → without_trivia (parts_left pattern rs) ≡ without_trivia (parts_left pattern qs) → IsRest qs [] rs → IsRest cs [] ds
          → MatchedSoFar p c rs ds old newer
      unfolding behind_it
      match_turns rs ds newer steps same ps_rest cs_rest =
          elim (steps behind_it) [
            | goes_on bs is whole newer_is ↦
                record {
                  found = so_far.found ++ bs;
                  new_is = newer_is ∙ ap (λ new. recorded new bs) so_far.new_is ∙ recorded-append old so_far.found bs;
                  whole =
                      so_far.whole
                      ∙ ap (joined (Some so_far.found)) (first_is ∙ whole)
                      ∙ joined_more so_far.found bs (behind_it (parts_left code ds))
                      ∙ ap (λ comma. joined (Some (so_far.found ++ bs)) (elements_by at (tree_bindings at) (number_of comma) (number_of cs.comma) (without_trivia (parts_left pattern qs)) (parts_left code ds))) ps_rest.comma
                      ∙ ap (λ comma. joined (Some (so_far.found ++ bs)) (elements_by at (tree_bindings at) (number_of rs.comma) (number_of comma) (without_trivia (parts_left pattern qs)) (parts_left code ds))) cs_rest.comma
                      ∙ ap (λ parts. joined (Some (so_far.found ++ bs)) (elements_by at (tree_bindings at) (number_of rs.comma) (number_of ds.comma) parts (parts_left code ds))) (sym same);
                  below = rest_all (IsBelow pattern p) qs rs [] ps_rest came_rest;
                  has = rest_all (HasElement code) cs ds [] cs_rest so_far.has;
                  few = let fewer = rest_few code cs ds [] cs_rest in let few = so_far.few in omega arith;
                }
            | differs is whole ↦ cc
          ]

      pub match_differs : (ds : Siblings) (newer : Recorded) → ElementSteps at pattern x qs code cs ds new newer false
          → Answers (tree_bindings at (node_of pattern p) (node_of code c)) old newer false
      unfolding behind_it
      match_differs ds newer steps =
          elim (steps behind_it) [
            | goes_on bs is whole newer_is ↦ cc
            | differs is whole ↦ other refl (so_far.whole ∙ ap (joined (Some so_far.found)) (first_is ∙ whole))
          ]

    -- nothing more of the pattern
    pub match_ends : (ps qs cs ds : Siblings) (old new : Recorded) (next : Option Element) (answer : Bool) → MatchedSoFar p c ps cs old new
        → without_trivia (parts_left pattern ps) ≡ without_trivia (parts_left pattern qs) → siblings_left qs ≡ []
        → passed (number_of cs.comma) (parts_left code cs) ≡ map (part_of code) (option_to_list next ++ siblings_left ds)
        → IfNone next (siblings_left ds ≡ []) → is_some next ≡ not answer
        → Answers (tree_bindings at (node_of pattern p) (node_of code c)) old new answer
    match_ends ps qs cs ds old new next answer so_far gives none passes no_more is = by next passes no_more is where
      whole : tree_bindings at (node_of pattern p) (node_of code c) ≡ joined (Some so_far.found) (nothing_by (passed (number_of cs.comma) (parts_left code cs)))
      whole =
          so_far.whole
          ∙ ap (λ parts. joined (Some so_far.found) (elements_by at (tree_bindings at) (number_of ps.comma) (number_of cs.comma) parts (parts_left code cs)))
          (gives ∙ ap (λ xs. without_trivia (map (part_of pattern) xs)) none)

      by : (next : Option Element) → passed (number_of cs.comma) (parts_left code cs) ≡ map (part_of code) (option_to_list next ++ siblings_left ds)
          → IfNone next (siblings_left ds ≡ []) → is_some next ≡ not answer
          → Answers (tree_bindings at (node_of pattern p) (node_of code c)) old new answer
      by None passes no_more is =
          matched so_far.found (negated answer is)
          (whole ∙ ap (λ ds. joined (Some so_far.found) (nothing_by ds)) (passes ∙ ap (map (part_of code)) no_more) ∙ ap Some (append-nil so_far.found))
          so_far.new_is
      by (Some x) passes no_more is = other (negated answer is) (whole ∙ ap (λ ds. joined (Some so_far.found) (nothing_by ds)) passes)
