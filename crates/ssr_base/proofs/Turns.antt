-- How files and expansions are taken in turn.
use Rattle.std.proofs.Common.{◌≡◌, ◌+◌, ◌<◌, ◌≤◌, List, length, Result, Ok, Err, String, sym, ap, ◌∙◌, subst, lt-ltb, le-ltb}
use Rattle.std.specs.Prelude.{IsErrAnd}
use Rattle.std.specs.Global.{Global}
use Rattle.ssr_base.specs.declared.building.Expansion.{Expansion}
use Rattle.ssr_base.specs.declared.workspace_error.WorkspaceError.{WorkspaceError}
use Rattle.ssr_base.specs.declared.workspace_error.WorkspaceError.TheVariants as errors
use Rattle.ssr_base_trees.specs.Workspace.{Workspace}
use Rattle.ssr_base_trees.specs.Built.{most_trees}
use Rattle.ssr_base.specs.Building.{◌>>=◌, unless, in_turn, with_file, with_expansion, built, Gives, Answers}
use Rattle.ssr_base_trees.specs.Growth.{no_tree}

-- a refusal of a part is one of the whole
gives_refusal : {A B : Type 0} (part : Result A WorkspaceError) (whole : Result B WorkspaceError) (e : WorkspaceError) → (part ≡ Err e → whole ≡ Err e)
    → Gives part (Err e) → Gives whole (Err e)
gives_refusal part whole errors.TooManyTrees on h = on h
gives_refusal part whole (errors.File n e) on h = on h
gives_refusal part whole (errors.Call n) on h = on h
gives_refusal part whole (errors.Nested n) on h = on h
gives_refusal part whole (errors.Origin n) on h = on h
gives_refusal part whole (errors.Expansion n e) on h = on h
gives_refusal part whole errors.Memory on h = tt

module _ (files : List (String Global)) (expansions : List Expansion) where
  built_few : length files + length expansions ≤ most_trees → built files expansions ≡ (in_turn with_file no_tree files >>= (λ w. in_turn with_expansion w expansions))
  unfolding built
  built_few few =
      ap (λ b. unless b errors.TooManyTrees >>= (λ _. in_turn with_file no_tree files >>= (λ w. in_turn with_expansion w expansions)))
      (le-ltb most_trees (length files + length expansions) few)

  built_many : most_trees < length files + length expansions → built files expansions ≡ Err errors.TooManyTrees
  unfolding built
  built_many many =
      ap (λ b. unless b errors.TooManyTrees >>= (λ _. in_turn with_file no_tree files >>= (λ w. in_turn with_expansion w expansions)))
      (lt-ltb most_trees (length files + length expansions) many)

  -- too many
  pub answers_many : (e : WorkspaceError) → e ≡ errors.TooManyTrees → most_trees < length files + length expansions → Answers files expansions (Err e)
  answers_many e is many = subst (λ e. Answers files expansions (Err e)) (sym is) (record { gives = built_many many; few = λ e. cc })

  -- a refusal of the files
  pub answers_files : (e : WorkspaceError) → length files + length expansions ≤ most_trees → Gives (in_turn with_file no_tree files) (Err e) → Answers files expansions (Err e)
  answers_files e few h = record {
    gives =
        gives_refusal (in_turn with_file no_tree files) (built files expansions) e
        (λ is. built_few few ∙ ap (λ r. r >>= (λ w. in_turn with_expansion w expansions)) is) h;
    few = λ _. few;
  }

  -- the files are read
  pub left_first : (w : Workspace) → length files + length expansions ≤ most_trees → in_turn with_file no_tree files ≡ Ok w
      → built files expansions ≡ in_turn with_expansion w expansions
  left_first w few is = built_few few ∙ ap (λ r. r >>= (λ w. in_turn with_expansion w expansions)) is

  -- an answer that is a refusal
  pub answers_by : (answer : Result Workspace WorkspaceError) (e : WorkspaceError) → IsErrAnd answer (λ y. y ≡ e) → Answers files expansions (Err e)
      → Answers files expansions answer
  answers_by (Ok w) e is h = absurd is
  answers_by (Err y) e is h = subst (λ y. Answers files expansions (Err y)) (sym is) h
