-- Private: the tokens that placeholders hold, from a token on.
use Rattle.std.specs.Prelude.{ℕ, ◌+◌, ◌-◌, if◌then◌else◌, nat_le, nat_lt, List, [], ◌∷◌}
use Rattle.ssr_syntax_tree.specs.declared.number.TokenNo.{TokenNo}
use Rattle.ssr_syntax_tree.specs.Syntax.{Syntax}
use Rattle.ssr_base_trees.specs.declared.ids.TokenRun.{TokenRun}
use Rattle.ide_ssr_bindings.specs.Apart.{tokens_held}
use Rattle.ide_ssr_bindings.specs.declared.bindings.Binding.{Binding}

-- how many tokens of a run come from a token on; none where the token is none of the run
abbrev pub left_in : TokenRun → TokenNo → ℕ
left_in run token = if nat_le run.first token.0 then run.first + run.count - token.0 else 0

-- how many tokens come from a token on in the first run of bindings that has the token; none where no run has it
abbrev pub bound_from : Syntax → TokenNo → List Binding → ℕ
bound_from code token [] = 0
bound_from code token (b ∷ bs) =
    let held = left_in (tokens_held code b.held) token in
    if nat_lt 0 held then held else bound_from code token bs
