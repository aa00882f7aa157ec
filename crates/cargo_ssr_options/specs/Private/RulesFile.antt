-- Rules as they are gathered line by line.
use Rattle.std.specs.Prelude.{ℕ, List, [], ◌∷◌, ◌++◌, if◌then◌else◌}
use Rattle.cargo_ssr_options.specs.RulesFile.{is_filled}

-- the rules and one more, unless it is empty
abbrev pub closed : List (List ℕ) → List ℕ → List (List ℕ)
closed rules rule = rules ++ (if is_filled rule then rule ∷ [] else [])

-- a rule with one more line
abbrev pub with_line : List ℕ → List ℕ → List ℕ
with_line rule line = if is_filled rule then rule ++ (10 ∷ line) else line
