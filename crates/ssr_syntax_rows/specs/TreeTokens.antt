-- The rows of a tree's tokens, from those of the text's tokens.
use Rattle.std.specs.Prelude.{ℕ, zero, suc, ◌+◌, ◌-◌, ◌==◌, if◌then◌else◌, List, [], ◌∷◌}
use Rattle.ssr_syntax_kinds.specs.Kinds.{is_trivia}
use Rattle.ssr_syntax_kinds.specs.declared.token_rows.TokenRow.{TokenRow}
use Rattle.ssr_syntax_forms.specs.declared.rows.Joined.{Joined}

-- The joined ones are told; the next token of the tree has the number n, and the one in front `left` solid ones more.
abbrev pub joined_rows : ℕ → ℕ → List Joined → List TokenRow → List TokenRow
joined_rows left n js [] = []
joined_rows zero n [] (t ∷ ts) = t ∷ ts
joined_rows zero n (j ∷ js) (t ∷ ts) =
    if j.number == n then (record { kind = j.kind; start = t.start } ∷ joined_rows (j.size - 1) (1 + n) js ts)
    else (t ∷ joined_rows zero (1 + n) (j ∷ js) ts)
joined_rows (suc left) n js (t ∷ ts) = joined_rows (if is_trivia t.kind then suc left else left) n js ts
