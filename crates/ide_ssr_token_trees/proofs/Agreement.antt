-- The relation and the function of matching agree.
use Rattle.std.proofs.Common.{◌≡◌, ℕ, zero, suc, ◌≤◌, Bool, true, false, ◌&&◌, ◌||◌, cond, List, [], ◌∷◌, ◌++◌, All, Option, Some, None, is_some, refl, sym, ◌∙◌, ap, subst, arith, nat_lt}
use Rattle.std.specs.Str.{bytes_eq}
use Rattle.std.proofs.lemmas.Bool.{and_from, and_parts}
use Rattle.std.proofs.lemmas.List.Elements.{All-head, All-tail, All-weaker}
use Rattle.std.proofs.lemmas.Option.{none-some, same_Some}
use Rattle.std.proofs.lemmas.Slice.Eq.{bytes_eq-Decides}
use Rattle.ssr_syntax_kinds.proofs.Shared.{same_kind-equal, equal-same_kind}
use Rattle.ssr_syntax_kinds.specs.Kinds.{same_kind, is_trivia}
use Rattle.ssr_syntax_tree.specs.Syntax.{Token}
use Rattle.ssr_syntax_tree.specs.Places.{Node, Part, token_part, node_part, parts_of, size_of}
use Rattle.ssr_base_trees.specs.declared.ids.TokenRun.{TokenRun}
use Rattle.ide_ssr_bindings.specs.declared.bindings.Binding.{Binding}
use Rattle.ide_ssr_bindings.specs.Found.{tokens_binding}
use Rattle.ide_ssr_token_trees.specs.Bindings.{joined, passed, nothing_by, placeholder_by, leaf_by, token_by, tree_by, elements_by, tree_bindings}
use Rattle.ide_ssr_token_trees.specs.Elements.{without_trivia, is_number, last_comma, next_text, up_to, from, run_over}
use Rattle.ide_ssr_token_trees.specs.TokenTrees.{is_passed, begins_passed, begins_placeholder, ElementsMatch, ended, placeholder, trivia, comma_of_code, comma_of_pattern, tokens, trees, TreesMatch}
use Rattle.ide_ssr_token_trees.proofs.Sizes.{Behind, HasAtMost, elements_small, tree_step}

-- ** What is passed over.

pub passed_stops : (y : Option ℕ) (cs : List Part) → begins_passed y (passed y cs) ≡ false
passed_stops y [] = refl
passed_stops y (c ∷ cs) = by (is_passed y c) refl (passed_stops y cs) where
  by : (b : Bool) → is_passed y c ≡ b → begins_passed y (passed y cs) ≡ false → begins_passed y (cond b (passed y cs) (c ∷ cs)) ≡ false
  by true is later = later
  by false is later = is

pub stops_passed : (y : Option ℕ) (cs : List Part) → begins_passed y cs ≡ false → passed y cs ≡ cs
stops_passed y [] stops = refl
stops_passed y (c ∷ cs) stops = ap (λ b. cond b (passed y cs) (c ∷ cs)) stops

module _ (at : ℕ → Option ℕ) where
  unpassed : (x y : Option ℕ) (ps cs : List Part) (bs : List Binding) → begins_placeholder at ps ≡ false
      → ElementsMatch at x y ps (passed y cs) bs → ElementsMatch at x y ps cs bs
  unpassed x y ps [] bs other match = match
  unpassed x y ps (node_part c ∷ cs) bs other match = match
  unpassed x y ps (token_part u c ∷ cs) bs other match =
      by (is_trivia c.kind) refl (is_number y u) refl (unpassed x y ps cs bs other) match
    where
      by : (b : Bool) → is_trivia c.kind ≡ b → (n : Bool) → is_number y u ≡ n → (ElementsMatch at x y ps (passed y cs) bs → ElementsMatch at x y ps cs bs)
          → ElementsMatch at x y ps (cond (b || n) (passed y cs) (token_part u c ∷ cs)) bs
          → ElementsMatch at x y ps (token_part u c ∷ cs) bs
      by true is n number later match = trivia x y ps u c cs bs other is (later match)
      by false is true number later match = comma_of_code x y ps u c cs bs other is number (later match)
      by false is false number later match = match

  -- ** What is computed matches.

  abbrev TreeAgrees : Node → Type 0
  TreeAgrees p = (c : Node) (bs : List Binding) → tree_bindings at p c ≡ Some bs → TreesMatch at p c bs

  abbrev PartAgrees : Part → Type 0
  PartAgrees (token_part t token) = Unit {0}
  PartAgrees (node_part p) = TreeAgrees p

  module _ (x y : Option ℕ) where
    abbrev ElementsAgree : List Part → Type 0
    ElementsAgree ps = (cs : List Part) (bs : List Binding) → elements_by at (tree_bindings at) x y ps cs ≡ Some bs → ElementsMatch at x y ps cs bs

    abbrev behind : List Part → Behind
    behind ps = elements_by at (tree_bindings at) x y ps

    ended_agrees : ElementsAgree []
    ended_agrees cs bs h = unpassed x y [] cs bs refl (by (passed y cs) h) where
      by : (ds : List Part) → nothing_by ds ≡ Some bs → ElementsMatch at x y [] ds bs
      by [] is = subst (ElementsMatch at x y [] []) (same_Some [] bs is) (ended x y)
      by (d ∷ ds) is = absurd (none-some bs is)

    placeholder_agrees : (t i : ℕ) (token : Token) (ps : List Part) → at t ≡ Some i → ElementsAgree ps
        → (cs : List Part) (bs : List Binding) → placeholder_by i (next_text ps) (behind ps) cs ≡ Some bs → ElementsMatch at x y (token_part t token ∷ ps) cs bs
    placeholder_agrees t i token ps is rest_agrees [] bs h = absurd (none-some bs h)
    placeholder_agrees t i token ps is rest_agrees (c ∷ cs) bs h = by (nat_lt 0 run.count) refl (behind ps left) refl h where
      left : List Part
      left = from (next_text ps) cs

      run : TokenRun
      run = run_over c (up_to (next_text ps) cs)

      by : (b : Bool) → nat_lt 0 run.count ≡ b → (o : Option (List Binding)) → behind ps left ≡ o
          → joined (cond b (Some (tokens_binding i run ∷ [])) None) o ≡ Some bs → ElementsMatch at x y (token_part t token ∷ ps) (c ∷ cs) bs
      by true some None is_left g = absurd (none-some bs g)
      by true some (Some rest) is_left g =
          subst (ElementsMatch at x y (token_part t token ∷ ps) (c ∷ cs)) (same_Some (tokens_binding i run ∷ rest) bs g)
          (placeholder x y t i token ps c cs rest is some (rest_agrees left rest is_left))
      by false some o is_left g = absurd (none-some bs g)

    -- a token that is no placeholder, at elements of the code of which the first is not passed over
    token_agrees : (t : ℕ) (token : Token) (ps : List Part) → at t ≡ None → ElementsAgree ps → (comma : Bool) → is_number x t ≡ comma
        → (ds : List Part) → begins_passed y ds ≡ false → (bs : List Binding)
        → cond comma (behind ps ds) (token_by token (behind ps) ds) ≡ Some bs → ElementsMatch at x y (token_part t token ∷ ps) ds bs
    token_agrees t token ps none rest_agrees true comma ds stops bs h = comma_of_pattern x y t token ps ds bs none stops comma (rest_agrees ds bs h)
    token_agrees t token ps none rest_agrees false comma [] stops bs h = absurd (none-some bs h)
    token_agrees t token ps none rest_agrees false comma (node_part d ∷ ds) stops bs h = absurd (none-some bs h)
    token_agrees t token ps none rest_agrees false comma (token_part u d ∷ ds) stops bs h =
        by (same_kind token.kind d.kind && bytes_eq token.text d.text) refl h
      where
        by : (b : Bool) → (same_kind token.kind d.kind && bytes_eq token.text d.text) ≡ b → cond b (behind ps ds) None ≡ Some bs
            → ElementsMatch at x y (token_part t token ∷ ps) (token_part u d ∷ ds) bs
        by true same g =
            let e = and_parts (same_kind token.kind d.kind) (bytes_eq token.text d.text) same in
            tokens x y t u token d ps ds bs none comma stops (same_kind-equal token.kind d.kind e.0) ((bytes_eq-Decides token.text d.text).0 e.1)
            (rest_agrees ds bs g)
        by false same g = absurd (none-some bs g)

    leaf_agrees : (t : ℕ) (token : Token) (ps : List Part) → ElementsAgree ps → ElementsAgree (token_part t token ∷ ps)
    leaf_agrees t token ps rest_agrees cs bs h = by (at t) refl (is_number x t) refl h where
      by : (o : Option ℕ) → at t ≡ o → (comma : Bool) → is_number x t ≡ comma → leaf_by y o comma token (next_text ps) (behind ps) cs ≡ Some bs
          → ElementsMatch at x y (token_part t token ∷ ps) cs bs
      by (Some i) is comma comma_is g = placeholder_agrees t i token ps is rest_agrees cs bs g
      by None is true comma_is g =
          unpassed x y (token_part t token ∷ ps) cs bs (ap is_some is)
          (token_agrees t token ps is rest_agrees true comma_is (passed y cs) (passed_stops y cs) bs g)
      by None is false comma_is g =
          unpassed x y (token_part t token ∷ ps) cs bs (ap is_some is)
          (token_agrees t token ps is rest_agrees false comma_is (passed y cs) (passed_stops y cs) bs g)

    tree_agrees : (p : Node) (ps : List Part) → TreeAgrees p → ElementsAgree ps → ElementsAgree (node_part p ∷ ps)
    tree_agrees p ps here rest_agrees cs bs h = unpassed x y (node_part p ∷ ps) cs bs refl (by (passed y cs) h) where
      by_both : (d : Node) (ds : List Part) (o : Option (List Binding)) → tree_bindings at p d ≡ o → (r : Option (List Binding)) → behind ps ds ≡ r
          → joined o r ≡ Some bs → ElementsMatch at x y (node_part p ∷ ps) (node_part d ∷ ds) bs
      by_both d ds None is r are g = absurd (none-some bs g)
      by_both d ds (Some found) is None are g = absurd (none-some bs g)
      by_both d ds (Some found) is (Some rest) are g =
          subst (ElementsMatch at x y (node_part p ∷ ps) (node_part d ∷ ds)) (same_Some (found ++ rest) bs g)
          (trees x y p d ps ds found rest (here d found is) (rest_agrees ds rest are))

      by : (ds : List Part) → tree_by (tree_bindings at p) (behind ps) ds ≡ Some bs → ElementsMatch at x y (node_part p ∷ ps) ds bs
      by [] g = absurd (none-some bs g)
      by (token_part u d ∷ ds) g = absurd (none-some bs g)
      by (node_part d ∷ ds) g = by_both d ds (tree_bindings at p d) refl (behind ps ds) refl g

    elements_agree : (ps : List Part) → All PartAgrees ps → ElementsAgree ps
    elements_agree [] all = ended_agrees
    elements_agree (token_part t token ∷ ps) all = leaf_agrees t token ps (elements_agree ps (All-tail PartAgrees (token_part t token) ps all))
    elements_agree (node_part p ∷ ps) all =
        tree_agrees p ps (All-head PartAgrees (node_part p) ps all) (elements_agree ps (All-tail PartAgrees (node_part p) ps all))

  bounded_agrees : (n : ℕ) (p : Node) → size_of p ≤ n → TreeAgrees p
  bounded_agrees zero p few c bs h = absurd (omega arith)
  bounded_agrees (suc n) p few c bs h =
      elements_agree (last_comma (parts_of p)) (last_comma (parts_of c)) (without_trivia (parts_of p))
      (All-weaker (HasAtMost n) PartAgrees (each (bounded_agrees n)) (without_trivia (parts_of p)) (elements_small n p (omega arith)))
      (parts_of c) bs (sym (tree_step at p c) ∙ h)
    where
      each : ((q : Node) → size_of q ≤ n → TreeAgrees q) → (part : Part) → HasAtMost n part → PartAgrees part
      each known (token_part t token) small = tt
      each known (node_part q) small = known q small

  pub tree_bindings-TreesMatch : (p c : Node) (bs : List Binding) → tree_bindings at p c ≡ Some bs → TreesMatch at p c bs
  tree_bindings-TreesMatch p = bounded_agrees (size_of p) p (omega arith)

  -- ** What matches is computed.

  leaf_skips : (y o : Option ℕ) (comma : Bool) (token : Token) (text : Option (List ℕ)) (h : Behind) (cs ds : List Part) → is_some o ≡ false → passed y cs ≡ passed y ds
      → leaf_by y o comma token text h cs ≡ leaf_by y o comma token text h ds
  leaf_skips y (Some i) comma token text h cs ds other same = cc
  leaf_skips y None true token text h cs ds other same = ap h same
  leaf_skips y None false token text h cs ds other same = ap (token_by token h) same

  skips : (x y : Option ℕ) (ps : List Part) (c : Part) (cs : List Part) → begins_placeholder at ps ≡ false → is_passed y c ≡ true
      → elements_by at (tree_bindings at) x y ps (c ∷ cs) ≡ elements_by at (tree_bindings at) x y ps cs
  skips x y ps c cs other passes = by ps other where
    same : passed y (c ∷ cs) ≡ passed y cs
    same = ap (λ b. cond b (passed y cs) (c ∷ cs)) passes

    by : (ps : List Part) → begins_placeholder at ps ≡ false
        → elements_by at (tree_bindings at) x y ps (c ∷ cs) ≡ elements_by at (tree_bindings at) x y ps cs
    by [] other = ap nothing_by same
    by (token_part t token ∷ ps) other =
        leaf_skips y (at t) (is_number x t) token (next_text ps) (elements_by at (tree_bindings at) x y ps) (c ∷ cs) cs other same
    by (node_part p ∷ ps) other = ap (tree_by (tree_bindings at p) (elements_by at (tree_bindings at) x y ps)) same

  pub ElementsMatch-elements_by : (x y : Option ℕ) (ps cs : List Part) (bs : List Binding) → ElementsMatch at x y ps cs bs
      → elements_by at (tree_bindings at) x y ps cs ≡ Some bs
  ElementsMatch-elements_by _ _ _ _ _ (ended x y) = refl
  ElementsMatch-elements_by _ _ _ _ _ (placeholder x y t i token ps c cs bs is some rest) =
      let left = from (next_text ps) cs in
      let run = run_over c (up_to (next_text ps) cs) in
      let h = elements_by at (tree_bindings at) x y ps in
      ap (λ o. leaf_by y o (is_number x t) token (next_text ps) h (c ∷ cs)) is
      ∙ ap (λ b. joined (cond b (Some (tokens_binding i run ∷ [])) None) (h left)) some
      ∙ ap (joined (Some (tokens_binding i run ∷ []))) (ElementsMatch-elements_by x y ps left bs rest)
  ElementsMatch-elements_by _ _ _ _ _ (trivia x y ps u c cs bs other is rest) =
      skips x y ps (token_part u c) cs other (ap (λ b. b || is_number y u) is) ∙ ElementsMatch-elements_by x y ps cs bs rest
  ElementsMatch-elements_by _ _ _ _ _ (comma_of_code x y ps u c cs bs other is number rest) =
      skips x y ps (token_part u c) cs other (ap (λ b. b || is_number y u) is ∙ number) ∙ ElementsMatch-elements_by x y ps cs bs rest
  ElementsMatch-elements_by _ _ _ _ _ (comma_of_pattern x y t token ps cs bs none stops number rest) =
      let h = elements_by at (tree_bindings at) x y ps in
      ap (λ o. leaf_by y o (is_number x t) token (next_text ps) h cs) none
      ∙ ap (λ b. leaf_by y None b token (next_text ps) h cs) number
      ∙ ap h (stops_passed y cs stops)
      ∙ ElementsMatch-elements_by x y ps cs bs rest
  ElementsMatch-elements_by _ _ _ _ _ (tokens x y t u p c ps cs bs none number stops kinds texts rest) =
      let h = elements_by at (tree_bindings at) x y ps in
      ap (λ o. leaf_by y o (is_number x t) p (next_text ps) h (token_part u c ∷ cs)) none
      ∙ ap (λ b. leaf_by y None b p (next_text ps) h (token_part u c ∷ cs)) number
      ∙ ap (token_by p h) (stops_passed y (token_part u c ∷ cs) stops)
      ∙ ap (λ b. cond b (h cs) None)
      (and_from (same_kind p.kind c.kind) (bytes_eq p.text c.text) (equal-same_kind p.kind c.kind kinds) ((bytes_eq-Decides p.text c.text).1 texts))
      ∙ ElementsMatch-elements_by x y ps cs bs rest
  ElementsMatch-elements_by _ _ _ _ _ (trees x y p c ps cs found rest here behind) =
      let h = elements_by at (tree_bindings at) x y ps in
      ap (λ o. joined o (h cs))
      (tree_step at p c ∙ ElementsMatch-elements_by (last_comma (parts_of p)) (last_comma (parts_of c)) (without_trivia (parts_of p)) (parts_of c) found here)
      ∙ ap (joined (Some found)) (ElementsMatch-elements_by x y ps cs rest behind)

  pub TreesMatch-tree_bindings : (p c : Node) (bs : List Binding) → TreesMatch at p c bs → tree_bindings at p c ≡ Some bs
  TreesMatch-tree_bindings p c bs match =
      tree_step at p c ∙ ElementsMatch-elements_by (last_comma (parts_of p)) (last_comma (parts_of c)) (without_trivia (parts_of p)) (parts_of c) bs match
