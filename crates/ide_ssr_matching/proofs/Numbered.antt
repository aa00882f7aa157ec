-- The placeholders of consecutive tokens of a tree, told by their numbers.
use Rattle.std.proofs.Common.{◌≡◌, ℕ, zero, suc, ◌+◌, Bool, true, false, List, [], ◌∷◌, ◌++◌, map, take, drop, Option, Some, None, option_to_list, refl, sym, ◌∙◌, ap, subst, arith}
use Rattle.std.specs.Prelude.{if◌then◌else◌}
use Rattle.std.specs.List.{cons_option}
use Rattle.std.proofs.lemmas.List.{take-append-drop}
use Rattle.ssr_syntax_kinds.specs.declared.kinds.SyntaxKind.{SyntaxKind}
use Rattle.ssr_syntax_kinds.specs.declared.kinds.SyntaxKind.TheVariants as k
use Rattle.ssr_syntax_kinds.specs.Kinds.{is_trivia, is_ident}
use Rattle.ssr_syntax_tree.specs.Syntax.{Token}
use Rattle.ide_ssr_resolved_rule.proofs.Shared.{not_named}
use Rattle.ide_ssr_resolved_rule.specs.Patterns.{placeholders_among}
use Rattle.ide_ssr_resolved_rule.specs.StandIns.{name_at}
use Rattle.ide_ssr_token_trees.specs.Bindings.{placeholder_in}
use Rattle.ide_ssr_token_trees.specs.Placeholders.{placeholders_from}

-- what a table of tokens says of the first of those from a number on
told_of_first : (f : Token → Option ℕ) (all : List Token) (t : ℕ) (token : Token) (rest : List Token) → drop t all ≡ token ∷ rest
    → (placeholder_in (map f all) t ≡ f token) × (drop (suc t) all ≡ rest)
told_of_first f [] zero token rest is = let e : [] ≡ token ∷ rest = is in cc
told_of_first f [] (suc t) token rest is = let e : [] ≡ token ∷ rest = is in cc
told_of_first f (x ∷ all) zero token rest is = let e : x ∷ all ≡ token ∷ rest = is in (let same : x ≡ token = cc in ap f same, cc)
told_of_first f (x ∷ all) (suc t) token rest is = told_of_first f all t token rest is

unnamed_kind : (kind : SyntaxKind) → is_trivia kind ≡ true → is_ident kind ≡ false
unnamed_kind k.IDENT is = let e : false ≡ true = is in cc
unnamed_kind _ is = refl

at_option : (o : Option ℕ) (rest : List ℕ) → option_to_list o ++ rest ≡ cons_option o rest
at_option None rest = refl
at_option (Some i) rest = refl

module _ (names : List (List ℕ)) where
  -- trivia are no stand-ins
  trivia_unnamed : (token : Token) → is_trivia token.kind ≡ true → name_at names token ≡ None
  trivia_unnamed token is = not_named names token (unnamed_kind token.kind is)

  numbered_from : (all : List Token) (t : ℕ) (tokens behind : List Token) → drop t all ≡ tokens ++ behind
      → placeholders_from (placeholder_in (map (name_at names) all)) t tokens ≡ placeholders_among names tokens
  numbered_from all t [] behind is = refl
  numbered_from all t (token ∷ rest) behind is =
      let told = told_of_first (name_at names) all t token (rest ++ behind) is in
      let next : suc t ≡ 1 + t = omega arith in
      by (is_trivia token.kind) refl told.0 (numbered_from all (1 + t) rest behind (subst (λ n. drop n all ≡ rest ++ behind) next told.1))
    where
      at : ℕ → Option ℕ
      at = placeholder_in (map (name_at names) all)

      by : (b : Bool) → is_trivia token.kind ≡ b → at t ≡ name_at names token
          → placeholders_from at (1 + t) rest ≡ placeholders_among names rest
          → (if b then [] else option_to_list (at t)) ++ placeholders_from at (1 + t) rest ≡ cons_option (name_at names token) (placeholders_among names rest)
      by true is same behind = behind ∙ ap (λ o. cons_option o (placeholders_among names rest)) (sym (trivia_unnamed token is))
      by false is same behind =
          at_option (at t) (placeholders_from at (1 + t) rest)
          ∙ ap (λ o. cons_option o (placeholders_from at (1 + t) rest)) same
          ∙ ap (cons_option (name_at names token)) behind

  pub numbered : (all : List Token) (t n : ℕ) (tokens : List Token) → take n (drop t all) ≡ tokens
      → placeholders_from (placeholder_in (map (name_at names) all)) t tokens ≡ placeholders_among names tokens
  numbered all t n tokens is =
      numbered_from all t tokens (drop n (drop t all)) (sym (take-append-drop n (drop t all)) ∙ ap (λ front. front ++ drop n (drop t all)) is)
