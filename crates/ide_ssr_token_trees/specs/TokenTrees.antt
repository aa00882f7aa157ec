-- When a token tree of the code matches one of a pattern, and what its placeholders hold then. White space and comments of
-- the pattern don't count; those of the code may be held.
use Rattle.std.specs.Prelude.{ℕ, ◌≡◌, ◌||◌, nat_lt, Bool, true, false, is_some, List, [], ◌∷◌, ◌++◌, Option, Some, None}
use Rattle.ssr_syntax_kinds.specs.Kinds.{is_trivia}
use Rattle.ssr_syntax_tree.specs.Syntax.{Token}
use Rattle.ssr_syntax_tree.specs.Places.{Node, Part, token_part, node_part, parts_of}
use Rattle.ide_ssr_bindings.specs.declared.bindings.Binding.{Binding}
use Rattle.ide_ssr_bindings.specs.Found.{tokens_binding}
use Rattle.ide_ssr_token_trees.specs.Elements.{without_trivia, last_comma, is_number, next_text, up_to, from, run_over}

-- whether an element of the code is passed over where no placeholder takes it: trivia, and the comma before the closing bracket
abbrev pub is_passed : Option ℕ → Part → Bool
is_passed comma (token_part t token) = is_trivia token.kind || is_number comma t
is_passed comma (node_part node) = false

-- whether the first of these elements of the code is passed over where no placeholder takes it
abbrev pub begins_passed : Option ℕ → List Part → Bool
begins_passed comma [] = false
begins_passed comma (part ∷ rest) = is_passed comma part

-- whether the first of these elements of a pattern is a placeholder, where `at` tells it of a token's number
abbrev pub begins_placeholder : (ℕ → Option ℕ) → List Part → Bool
begins_placeholder at [] = false
begins_placeholder at (token_part t token ∷ rest) = is_some (at t)
begins_placeholder at (node_part node ∷ rest) = false

-- Elements of a pattern against those of the code, by the first case that applies; `p_comma` and `c_comma` are the commas
-- before the closing brackets of the two trees. A placeholder holds the first element, whatever that is, and those behind it
-- up to the first that begins with the same text as what comes behind the placeholder. What is held has a token, as each
-- element of a token tree has in trees of the grammar.
pub data ElementsMatch (at : ℕ → Option ℕ) : Option ℕ → Option ℕ → List Part → List Part → List Binding → Type 0 where
  ended : (p_comma c_comma : Option ℕ) → ElementsMatch at p_comma c_comma [] [] []
  placeholder : (p_comma c_comma : Option ℕ) (t i : ℕ) (token : Token) (ps : List Part) (c : Part) (cs : List Part) (bs : List Binding)
      → at t ≡ Some i → nat_lt 0 (run_over c (up_to (next_text ps) cs)).count ≡ true
      → ElementsMatch at p_comma c_comma ps (from (next_text ps) cs) bs
      → ElementsMatch at p_comma c_comma (token_part t token ∷ ps) (c ∷ cs) (tokens_binding i (run_over c (up_to (next_text ps) cs)) ∷ bs)
  trivia : (p_comma c_comma : Option ℕ) (ps : List Part) (u : ℕ) (c : Token) (cs : List Part) (bs : List Binding)
      → begins_placeholder at ps ≡ false → is_trivia c.kind ≡ true
      → ElementsMatch at p_comma c_comma ps cs bs → ElementsMatch at p_comma c_comma ps (token_part u c ∷ cs) bs
  comma_of_code : (p_comma c_comma : Option ℕ) (ps : List Part) (u : ℕ) (c : Token) (cs : List Part) (bs : List Binding)
      → begins_placeholder at ps ≡ false → is_trivia c.kind ≡ false → is_number c_comma u ≡ true
      → ElementsMatch at p_comma c_comma ps cs bs → ElementsMatch at p_comma c_comma ps (token_part u c ∷ cs) bs
  comma_of_pattern : (p_comma c_comma : Option ℕ) (t : ℕ) (token : Token) (ps cs : List Part) (bs : List Binding)
      → at t ≡ None → begins_passed c_comma cs ≡ false → is_number p_comma t ≡ true
      → ElementsMatch at p_comma c_comma ps cs bs → ElementsMatch at p_comma c_comma (token_part t token ∷ ps) cs bs
  tokens : (p_comma c_comma : Option ℕ) (t u : ℕ) (p c : Token) (ps cs : List Part) (bs : List Binding)
      → at t ≡ None → is_number p_comma t ≡ false → is_passed c_comma (token_part u c) ≡ false → p.kind ≡ c.kind → p.text ≡ c.text
      → ElementsMatch at p_comma c_comma ps cs bs
      → ElementsMatch at p_comma c_comma (token_part t p ∷ ps) (token_part u c ∷ cs) bs
  trees : (p_comma c_comma : Option ℕ) (p c : Node) (ps cs : List Part) (bs rest : List Binding)
      → ElementsMatch at (last_comma (parts_of p)) (last_comma (parts_of c)) (without_trivia (parts_of p)) (parts_of c) bs
      → ElementsMatch at p_comma c_comma ps cs rest
      → ElementsMatch at p_comma c_comma (node_part p ∷ ps) (node_part c ∷ cs) (bs ++ rest)

-- a token tree of a pattern against one of the code
abbrev pub TreesMatch : (ℕ → Option ℕ) → Node → Node → List Binding → Type 0
TreesMatch at p c bs = ElementsMatch at (last_comma (parts_of p)) (last_comma (parts_of c)) (without_trivia (parts_of p)) (parts_of c) bs
