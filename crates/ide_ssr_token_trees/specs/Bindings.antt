-- The bindings of token trees that match, computed: those of the relation of `TokenTrees`, as the law `laws::matching` says.
use Rattle.std.specs.Prelude.{ℕ, ◌≡◌, zero, suc, nat_lt, Bool, true, false, List, [], ◌∷◌, ◌++◌, Option, Some, None, slice_index_or, if◌then◌else◌}
use Rattle.ssr_syntax_tree.specs.Syntax.{Token, same_token}
use Rattle.ssr_syntax_tree.specs.Places.{Node, Part, token_part, node_part, parts_of, size_of}
use Rattle.ssr_base_trees.specs.declared.ids.TokenRun.{TokenRun}
use Rattle.ide_ssr_bindings.specs.declared.bindings.Binding.{Binding}
use Rattle.ide_ssr_bindings.specs.Found.{tokens_binding}
use Rattle.ide_ssr_token_trees.specs.Elements.{without_trivia, last_comma, is_number, next_text, up_to, from, run_over}
use Rattle.ide_ssr_token_trees.specs.Recording.{Recorded, recorded}
use Rattle.ide_ssr_token_trees.specs.TokenTrees.{is_passed}

-- which placeholder a token of the pattern is, by a table of them
abbrev pub placeholder_in : List (Option ℕ) → ℕ → Option ℕ
placeholder_in table t = slice_index_or table t None

-- both bindings, where there are both
abbrev pub joined : Option (List Binding) → Option (List Binding) → Option (List Binding)
joined (Some bs) (Some rest) = Some (bs ++ rest)
joined (Some bs) None = None
joined None rest = None

-- elements of the code from the first one on that is not passed over
abbrev pub passed : Option ℕ → List Part → List Part
passed comma [] = []
passed comma (part ∷ rest) = if is_passed comma part then passed comma rest else part ∷ rest

-- nothing more of the pattern, which matches where nothing of the code is left
abbrev pub nothing_by : List Part → Option (List Binding)
nothing_by [] = Some []
nothing_by (c ∷ cs) = None

abbrev pub holding : ℕ → TokenRun → Option (List Binding)
holding i run = if nat_lt 0 run.count then Some (tokens_binding i run ∷ []) else None

-- a placeholder, which holds elements up to a text, and what comes behind it
abbrev pub placeholder_by : ℕ → Option (List ℕ) → (List Part → Option (List Binding)) → List Part → Option (List Binding)
placeholder_by i text behind [] = None
placeholder_by i text behind (c ∷ cs) = joined (holding i (run_over c (up_to text cs))) (behind (from text cs))

-- a token of the pattern that is no placeholder, and what comes behind it
abbrev pub token_by : Token → (List Part → Option (List Binding)) → List Part → Option (List Binding)
token_by token behind [] = None
token_by token behind (token_part u c ∷ cs) = if same_token token c then behind cs else None
token_by token behind (node_part c ∷ cs) = None

-- a token tree of the pattern, and what comes behind it
abbrev pub tree_by : (Node → Option (List Binding)) → (List Part → Option (List Binding)) → List Part → Option (List Binding)
tree_by matched behind [] = None
tree_by matched behind (token_part u c ∷ cs) = None
tree_by matched behind (node_part c ∷ cs) = joined (matched c) (behind cs)

-- a token of the pattern, which may be a placeholder, or the comma before the closing bracket
abbrev pub leaf_by : Option ℕ → Option ℕ → Bool → Token → Option (List ℕ) → (List Part → Option (List Binding)) → List Part → Option (List Binding)
leaf_by c_comma (Some i) is_comma token text behind cs = placeholder_by i text behind cs
leaf_by c_comma None true token text behind cs = behind (passed c_comma cs)
leaf_by c_comma None false token text behind cs = token_by token behind (passed c_comma cs)

module _ (at : ℕ → Option ℕ) where
  -- elements of a pattern against those of the code, where it is known how trees match
  module _ (matched : Node → Node → Option (List Binding)) (p_comma c_comma : Option ℕ) where
    -- the first element of the pattern, before one that begins with a text, and what comes behind it
    abbrev pub part_by : Part → Option (List ℕ) → (List Part → Option (List Binding)) → List Part → Option (List Binding)
    part_by (token_part t token) text behind cs = leaf_by c_comma (at t) (is_number p_comma t) token text behind cs
    part_by (node_part p) text behind cs = tree_by (matched p) behind (passed c_comma cs)

    abbrev pub elements_by : List Part → List Part → Option (List Binding)
    elements_by [] cs = nothing_by (passed c_comma cs)
    elements_by (p ∷ ps) cs = part_by p (next_text ps) (elements_by ps) cs

  -- trees, where it is known how smaller ones match
  abbrev pub trees_by : (Node → Node → Option (List Binding)) → Node → Node → Option (List Binding)
  trees_by matched p c = elements_by matched (last_comma (parts_of p)) (last_comma (parts_of c)) (without_trivia (parts_of p)) (parts_of c)

  -- trees of which that of the pattern has at most so many nodes
  abbrev pub bounded_by : ℕ → Node → Node → Option (List Binding)
  bounded_by zero p c = None
  bounded_by (suc size) p c = trees_by (bounded_by size) p c

  -- what the placeholders of the pattern's tree p hold where c matches it
  unfoldable pub tree_bindings : Node → Node → Option (List Binding)
  tree_bindings p c = bounded_by (size_of p) p c

-- How a test of a pattern answers: bindings that come behind those before, where these are recorded, or that there is no match
pub data Answers (bindings : Option (List Binding)) (old new : Recorded) (answer : Bool) : Type 0 where
  matched : (bs : List Binding) → answer ≡ true → bindings ≡ Some bs → new ≡ recorded old bs → Answers bindings old new answer
  other : answer ≡ false → bindings ≡ None → Answers bindings old new answer
