-- Which changes in a part of a text, and in a file, are put in parentheses, so that it groups as before.
use Rattle.std.specs.Prelude.{ℕ, ◌==◌, ◌&&◌, Bool, true, false, if◌then◌else◌, List, [], ◌∷◌, Option, length, map}
use Rattle.std.specs.List.{filter_map}
use Rattle.std.specs.Option.{unwrap_or}
use Rattle.ssr_syntax_kinds.specs.declared.reach.Reach.{Reach}
use Rattle.ssr_base_trees.specs.Changes.{Change}
use Rattle.ssr_base_trees.specs.Workspace.{Workspace}
use Rattle.ssr_standing.specs.Expansions.{stands_in}
use Rattle.ssr_standing.specs.Fitted.{if_fitted}
use Rattle.ssr_standing.specs.Near.{settled, stands_by}
use Rattle.ssr_standing.specs.Parts.{stands_between}
use Rattle.ssr_standing.specs.declared.fitted.Judge.{Judge}
use Rattle.ssr_standing.specs.declared.fitted.Judge.TheVariants as judges

-- a change as it is told; where nothing is told of it, it stays as it is
abbrev pub as_told : (Change → Option Change) → Change → Change
as_told tell c = unwrap_or (tell c) c

-- a change as it stands by some test; what stands neither as it is nor in parentheses stays as it is
abbrev pub fitted_alone : (Change → Bool) → Change → Change
fitted_alone stands c = as_told (if_fitted stands) c

-- the changes as they are, if they stand together; else each as it stands alone
abbrev pub all_fitted : (List Change → Bool) → List Change → List Change
all_fitted stands cs = if stands cs then cs else map (fitted_alone (λ c. stands (c ∷ []))) cs

-- there is no change, or nothing around it: it has all bytes from one place to another, and no text stands in front
abbrev pub is_alone : List ℕ → ℕ → ℕ → List Change → Bool
is_alone front from to [] = true
is_alone front from to (c ∷ []) = length front == 0 && (c.start == from && c.end == to)
is_alone front from to (c ∷ d ∷ cs) = false

-- the changes that are made between two places of a text, behind the text in front
unfoldable pub fitted_between : Reach → List ℕ → List ℕ → ℕ → ℕ → List Change → List Change
fitted_between reach front text from to cs =
    if is_alone front from to cs then cs else all_fitted (stands_between reach front text from to) cs

-- The changes as they are, if they stand together. Else each as it is settled, if those that are stand together without the others; else
-- each as it stands alone in the whole file.
abbrev pub fitted_near : (List Change → Bool) → (Judge → Change → Bool) → List Change → List Change
fitted_near stand stands_by cs =
    if stand cs then cs
    else if stand (filter_map (settled stands_by) cs) then map (as_told (settled stands_by)) cs
    else map (fitted_alone (stands_by judges.File)) cs

-- The changes that are made in a file. They stand together if it is read with them and groups as before, and so does what each call of a
-- macro in it stands for. Those that are settled have to pass this test, too. It leaves out what stands nowhere: with that it would fail.
unfoldable pub fitted_in : Workspace → ℕ → List Change → List Change
fitted_in w file cs = fitted_near (stands_in w file) (stands_by w file) cs
