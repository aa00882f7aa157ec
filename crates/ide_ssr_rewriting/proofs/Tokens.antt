-- The numbers of a tree's tokens from one on.
use Rattle.std.proofs.Common.{◌≡◌, ℕ, ◌+◌, ◌≤◌, [], ◌∷◌, drop, ◌∙◌, ap, arith, zero-add}
use Rattle.std.proofs.lemmas.List.{drop_more, drop_all}
use Rattle.std.proofs.lemmas.List.FromFn.{get_or-range_with_len, length-range_with_len}
use Rattle.ssr_syntax_tree.specs.Syntax.{Syntax, token_count}
use Rattle.ssr_syntax_tree.specs.Places.{HasToken}
use Rattle.ide_ssr_rewriting.specs.Rendering.{token_numbers}

pub numbers_from : (tree : Syntax) (n : ℕ) → HasToken tree n → drop n (token_numbers tree) ≡ n ∷ drop (n + 1) (token_numbers tree)
numbers_from tree n h =
    drop_more (token_numbers tree) n n (let long = length-range_with_len 0 (token_count tree.children) in omega arith)
    ∙ ap (λ (k : ℕ). k ∷ drop (n + 1) (token_numbers tree)) (get_or-range_with_len 0 (token_count tree.children) n n h ∙ zero-add n)

pub no_numbers : (tree : Syntax) (n : ℕ) → token_count tree.children ≤ n → drop n (token_numbers tree) ≡ []
no_numbers tree n h = drop_all n (token_numbers tree) (let long = length-range_with_len 0 (token_count tree.children) in omega arith)
