-- How the steps of the matcher answer.
use Rattle.std.proofs.Common.{◌≡◌, ℕ, Bool, true, false, cond, List, [], ◌∷◌, map, Option, Some, None, refl, sym, ◌∙◌, ap, subst, nat_lt}
use Rattle.std.proofs.lemmas.Option.{none-some, same_Some}
use Rattle.ssr_syntax_tree.specs.declared.number.Element.{Element}
use Rattle.ssr_syntax_tree.specs.declared.number.Element.TheVariants as element
use Rattle.ssr_syntax_tree.specs.declared.number.NodeNo.{NodeNo}
use Rattle.ssr_syntax_tree.specs.declared.number.TokenNo.{TokenNo}
use Rattle.ssr_syntax_tree.specs.Syntax.{Token, Syntax}
use Rattle.ssr_syntax_tree.specs.Places.{Part, token_part, node_part, node_of, part_of}
use Rattle.ssr_base_trees.specs.declared.ids.TokenRun.{TokenRun}
use Rattle.ide_ssr_bindings.specs.declared.bindings.Binding.{Binding}
use Rattle.ide_ssr_bindings.specs.Found.{tokens_binding}
use Rattle.ide_ssr_token_trees.specs.declared.siblings.Siblings.{Siblings}
use Rattle.ide_ssr_token_trees.specs.Bindings.{joined, passed, placeholder_by, leaf_by, token_by, tree_by, tree_bindings, Answers, matched, other}
use Rattle.ide_ssr_token_trees.specs.Elements.{up_to, from, run_over}
use Rattle.ide_ssr_token_trees.specs.Recording.{Recorded, recorded}
use Rattle.ide_ssr_token_trees.specs.Private.Matching.{is_same, Steps, goes_on, differs, ElementSteps}
use Rattle.ide_ssr_token_trees.specs.Private.Siblings.{siblings_left, parts_left, number_of, run_by, behind_run}
use Rattle.ide_ssr_token_trees.proofs.Appended.{recorded-nil}
use Rattle.ide_ssr_token_trees.proofs.Sizes.{Behind}

-- ** A placeholder.

placeholder_lacks : (i : ℕ) (text : Option (List ℕ)) (behind : Behind) (cs : List Part) → run_by text cs ≡ None → placeholder_by i text behind cs ≡ None
placeholder_lacks i text behind [] none = refl
placeholder_lacks i text behind (c ∷ cs) none = by (nat_lt 0 (run_over c (up_to text cs)).count) none where
  by : (b : Bool) → ◌≡◌ {A = Option TokenRun} (cond b (Some (run_over c (up_to text cs))) None) None
      → joined (cond b (Some (tokens_binding i (run_over c (up_to text cs)) ∷ [])) None) (behind (from text cs)) ≡ None
  by true is = absurd (none-some (run_over c (up_to text cs)) (sym is))
  by false is = refl

placeholder_holds : (i : ℕ) (text : Option (List ℕ)) (behind : Behind) (cs : List Part) (run : TokenRun) → run_by text cs ≡ Some run
    → placeholder_by i text behind cs ≡ joined (Some (tokens_binding i run ∷ [])) (behind (behind_run text cs))
placeholder_holds i text behind [] run some = absurd (none-some run some)
placeholder_holds i text behind (c ∷ cs) run some = by (nat_lt 0 (run_over c (up_to text cs)).count) some where
  by : (b : Bool) → ◌≡◌ {A = Option TokenRun} (cond b (Some (run_over c (up_to text cs))) None) (Some run)
      → joined (cond b (Some (tokens_binding i (run_over c (up_to text cs)) ∷ [])) None) (behind (from text cs))
      ≡ joined (Some (tokens_binding i run ∷ [])) (behind (from text cs))
  by true is = ap (λ run. joined (Some (tokens_binding i run ∷ [])) (behind (from text cs))) (same_Some (run_over c (up_to text cs)) run is)
  by false is = absurd (none-some run is)

pub lacks_step : (i : ℕ) (text : Option (List ℕ)) (behind : Behind) (cs left : List Part) (out : Recorded) (run : Option TokenRun)
    → run ≡ run_by text cs → run ≡ None → Steps (placeholder_by i text behind cs) (behind left) out out false
lacks_step i text behind cs left out run is none = differs refl (placeholder_lacks i text behind cs (sym is ∙ none))

pub holds_step : (i : ℕ) (text : Option (List ℕ)) (behind : Behind) (cs left : List Part) (old new : Recorded) (run : TokenRun) (came : Option TokenRun) (b : Binding)
    → came ≡ run_by text cs → came ≡ Some run → left ≡ behind_run text cs → b ≡ tokens_binding i run → new ≡ recorded old (b ∷ [])
    → Steps (placeholder_by i text behind cs) (behind left) old new true
holds_step i text behind cs left old new run came b is some left_is b_is new_is =
    goes_on (tokens_binding i run ∷ []) refl
    (placeholder_holds i text behind cs run (sym is ∙ some) ∙ ap (λ left. joined (Some (tokens_binding i run ∷ [])) (behind left)) (sym left_is))
    (new_is ∙ ap (λ b. recorded old (b ∷ [])) b_is)

-- ** Another token.

pub comma_step : (y : Option ℕ) (comma : Bool) (token : Token) (text : Option (List ℕ)) (behind : Behind) (cs left : List Part) → comma ≡ true → left ≡ passed y cs
    → leaf_by y None comma token text behind cs ≡ behind left
comma_step y comma token text behind cs left is left_is = ap (λ b. leaf_by y None b token text behind cs) is ∙ ap behind (sym left_is)

pub ended_step : (y : Option ℕ) (comma : Bool) (token : Token) (text : Option (List ℕ)) (behind : Behind) (cs left : List Part) → comma ≡ false → passed y cs ≡ left → left ≡ []
    → leaf_by y None comma token text behind cs ≡ None
ended_step y comma token text behind cs left is left_is none =
    ap (λ b. leaf_by y None b token text behind cs) is ∙ ap (token_by token behind) (left_is ∙ none)

same_step : (token : Token) (behind : Behind) (c : Part) (left : List Part) → token_by token behind (c ∷ left) ≡ cond (is_same token c) (behind left) None
same_step token behind (token_part u c) left = refl
same_step token behind (node_part c) left = refl

pub token_step : (y : Option ℕ) (comma : Bool) (token : Token) (text : Option (List ℕ)) (behind : Behind) (cs left : List Part) (c : Part) (same : Bool) → comma ≡ false
    → passed y cs ≡ c ∷ left → same ≡ is_same token c → leaf_by y None comma token text behind cs ≡ cond same (behind left) None
token_step y comma token text behind cs left c same is left_is same_is =
    ap (λ b. leaf_by y None b token text behind cs) is
    ∙ ap (token_by token behind) left_is
    ∙ same_step token behind c left
    ∙ ap (λ b. cond b (behind left) None) (sym same_is)

pub joined_none : (o : Option (List Binding)) → joined (Some []) o ≡ o
joined_none None = refl
joined_none (Some bs) = refl

-- an answer without bindings
pub tested_step : (whole behind : Option (List Binding)) (out : Recorded) (same : Bool) → whole ≡ cond same behind None → Steps whole behind out out same
tested_step whole behind out true is = goes_on [] refl (is ∙ sym (joined_none behind)) (sym (recorded-nil out))
tested_step whole behind out false is = differs refl is

-- ** Any token.

pub placeholder_step : (y o : Option ℕ) (comma : Bool) (token : Token) (text came : Option (List ℕ)) (behind : Behind) (cs : List Part) (rest : Option (List Binding))
    (old new : Recorded) (answer : Bool) (i : ℕ) (at : Option ℕ) → at ≡ o → at ≡ Some i → came ≡ text
    → Steps (placeholder_by i came behind cs) rest old new answer → Steps (leaf_by y o comma token text behind cs) rest old new answer
placeholder_step y o comma token text came behind cs rest old new answer i at at_is some text_is steps =
    subst (λ o. Steps (leaf_by y o comma token text behind cs) rest old new answer) (sym some ∙ at_is)
    (subst (λ text. Steps (placeholder_by i text behind cs) rest old new answer) text_is steps)

pub plain_step : (y o : Option ℕ) (comma : Bool) (token : Token) (text : Option (List ℕ)) (behind : Behind) (cs : List Part) (rest : Option (List Binding))
    (out : Recorded) (same : Bool) (at : Option ℕ) → at ≡ o → at ≡ None
    → leaf_by y None comma token text behind cs ≡ cond same rest None → Steps (leaf_by y o comma token text behind cs) rest out out same
plain_step y o comma token text behind cs rest out same at at_is none is =
    tested_step (leaf_by y o comma token text behind cs) rest out same (ap (λ o. leaf_by y o comma token text behind cs) (sym at_is ∙ none) ∙ is)

-- ** A tree.

module _ (at : ℕ → Option ℕ) (pattern : Syntax) (p : Element) (n : NodeNo) (ps : Siblings) (code : Syntax) (cs ds : Siblings) where
  -- of the pattern, before an element of the code
  at_tree : (old new : Recorded) (answer : Bool) → p ≡ element.Node n
      → ((behind : Behind) → Steps (tree_by (tree_bindings at (node_of pattern n.0)) behind (passed (number_of cs.comma) (parts_left code cs))) (behind (parts_left code ds)) old new answer)
      → ElementSteps at pattern p ps code cs ds old new answer
  at_tree old new answer is steps = subst (λ p. ElementSteps at pattern p ps code cs ds old new answer) (sym is) steps

  -- there is none
  pub none_steps : (out : Recorded) → p ≡ element.Node n → passed (number_of cs.comma) (parts_left code cs) ≡ parts_left code ds → siblings_left ds ≡ []
      → ElementSteps at pattern p ps code cs ds out out false
  none_steps out is gives none =
      at_tree out out false is
      (λ behind. differs refl (ap (tree_by (tree_bindings at (node_of pattern n.0)) behind) (gives ∙ ap (map (part_of code)) none)))

  -- it is a token
  pub token_steps : (out : Recorded) (x : Element) (t : TokenNo) → p ≡ element.Node n → passed (number_of cs.comma) (parts_left code cs) ≡ part_of code x ∷ parts_left code ds
      → x ≡ element.Token t → ElementSteps at pattern p ps code cs ds out out false
  token_steps out x t is gives is_token =
      at_tree out out false is
      (λ behind. differs refl
      (ap (tree_by (tree_bindings at (node_of pattern n.0)) behind) (gives ∙ ap (λ x. part_of code x ∷ parts_left code ds) is_token)))

  -- it is a tree
  pub node_steps : (old new : Recorded) (answer : Bool) (x : Element) (m : NodeNo) → p ≡ element.Node n
      → passed (number_of cs.comma) (parts_left code cs) ≡ part_of code x ∷ parts_left code ds → x ≡ element.Node m
      → Answers (tree_bindings at (node_of pattern n.0) (node_of code m.0)) old new answer → ElementSteps at pattern p ps code cs ds old new answer
  node_steps old new answer x m is gives is_node answers = at_tree old new answer is (λ behind. by behind answers) where
    come : (behind : Behind) → tree_by (tree_bindings at (node_of pattern n.0)) behind (passed (number_of cs.comma) (parts_left code cs))
        ≡ joined (tree_bindings at (node_of pattern n.0) (node_of code m.0)) (behind (parts_left code ds))
    come behind = ap (tree_by (tree_bindings at (node_of pattern n.0)) behind) (gives ∙ ap (λ x. part_of code x ∷ parts_left code ds) is_node)

    by : (behind : Behind) → Answers (tree_bindings at (node_of pattern n.0) (node_of code m.0)) old new answer
        → Steps (tree_by (tree_bindings at (node_of pattern n.0)) behind (passed (number_of cs.comma) (parts_left code cs))) (behind (parts_left code ds)) old new answer
    by behind (matched bs true_is found new_is) = goes_on bs true_is (come behind ∙ ap (λ o. joined o (behind (parts_left code ds))) found) new_is
    by behind (other false_is none) = differs false_is (come behind ∙ ap (λ o. joined o (behind (parts_left code ds))) none)
