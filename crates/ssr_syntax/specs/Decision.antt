-- Whether a forest fits a goal of this grammar, by as many levels of goals as it can have.
use Rattle.std.specs.Prelude.{ℕ, ◌+◌, ◌*◌}
use Rattle.ssr_syntax_types.specs.declared.goals.Goal.{Goal}
use Rattle.ssr_syntax.specs.Grammar.{grammar}
use Rattle.ssr_syntax_forms.specs.Decision.{Stages, decide_at}
use Rattle.ssr_syntax_forms.specs.Trees.{height}

-- how many goals stand in a row at most, with no node between them
abbrev pub goals_in_a_row : ℕ
goals_in_a_row = 1

-- whether the forest that is made is one of the goal, before the tokens that are left
abbrev pub decide_fits : Goal → Stages
decide_fits goal r = decide_at grammar (height r.made * goals_in_a_row + goals_in_a_row) goal r
