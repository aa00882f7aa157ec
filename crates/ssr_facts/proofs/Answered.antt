-- Answers to a facts file, by what its rows are.
use Rattle.std.proofs.Common.{◌≡◌, List, Bool, true, false, Result, Ok, Err, String, string_bytes, map, refl, sym, ap, ◌∙◌, subst}
use Rattle.std.specs.Global.{Global}
use Rattle.std.specs.Bool.{MatchBool}
use Rattle.std.specs.Result.{IsOkAnd}
use Rattle.ssr_base.specs.declared.building.Expansion.{Expansion}
use Rattle.ssr_base.specs.declared.workspace_error.WorkspaceError.{WorkspaceError}
use Rattle.ssr_base.specs.Building.{built}
use Rattle.ssr_base_trees.specs.Workspace.{Workspace}
use Rattle.ssr_facts_rows.specs.declared.facts.FactRows.{FactRows}
use Rattle.ssr_facts_rows.specs.declared.sources.FileRow.{FileRow}
use Rattle.ssr_facts_rows.specs.Sources.{plain_file, plain_expansion}
use Rattle.ssr_facts_rows.specs.Facts.{PlainFacts, plain_facts}
use Rattle.ssr_facts.specs.declared.facts.Facts.{Facts}
use Rattle.ssr_facts.specs.declared.facts_error.FactsError.{FactsError}
use Rattle.ssr_facts.specs.declared.facts_error.FactsError.TheVariants as errors
use Rattle.ssr_facts.specs.Naming.{all_named}
use Rattle.ssr_facts.specs.Reading.{AreTold, AnswersOf, AnswersRows, Answers}
use Rattle.ssr_facts.specs.Sources.{row_of_expansion, AreSources}
use Rattle.ssr_facts.specs.Private.Reading.{Builds}
use Rattle.ssr_facts.proofs.Lists.{map_of_map}

module _ (rows : PlainFacts) (files : List (String Global)) (expansions : List Expansion) (sources : AreSources rows files expansions) where
  -- a workspace is refused
  pub refused : (e : FactsError) → Builds files expansions (Err e) → Answers (Ok rows) (Err e)
  refused errors.Memory is = tt
  refused (errors.Workspace refusal) is = record {
    files = files;
    expansions = expansions;
    sources = sources;
    answers = subst (λ (o : Result Workspace WorkspaceError). AnswersOf rows o (Err (errors.Workspace refusal))) (sym is) refl;
  }
  refused errors.NotJson is = absurd is
  refused errors.Shape is = absurd is

  module _ (w : Workspace) (is : built files expansions ≡ Ok w) where
    answered : (b : Bool) (answer : Result Facts FactsError) → all_named w rows ≡ b → MatchBool b (IsOkAnd answer (AreTold rows w)) (answer ≡ Err errors.Shape) → AnswersRows rows answer
    answered b answer named said = record {
      files = files;
      expansions = expansions;
      sources = sources;
      answers =
          subst (λ (o : Result Workspace WorkspaceError). AnswersOf rows o answer) (sym is)
          (subst (λ (b : Bool). MatchBool b (IsOkAnd answer (AreTold rows w)) (answer ≡ Err errors.Shape)) (sym named) said);
    }

    -- all is named
    pub answered_facts : (facts : Facts) → all_named w rows ≡ true → AreTold rows w facts → AnswersRows rows (Ok facts)
    answered_facts facts named told = answered true (Ok facts) named told

    -- something names nothing
    pub answered_shape : all_named w rows ≡ false → AnswersRows rows (Err errors.Shape)
    answered_shape unnamed = answered false (Err errors.Shape) unnamed refl

-- what is handed in to be built is what rows tell
pub sources_are : (rows : FactRows) (texts : List (String Global)) (expansions : List Expansion) → texts ≡ map (λ (file : FileRow). file.text) rows.files.items
    → map row_of_expansion expansions ≡ map plain_expansion rows.expansions.items → AreSources (plain_facts rows) texts expansions
sources_are rows texts expansions files calls = record {
  texts =
      ap (map string_bytes) files ∙ map_of_map (λ (file : FileRow). file.text) string_bytes rows.files.items
      ∙ sym (map_of_map plain_file (λ file. file.text) rows.files.items);
  rows = calls;
}

pub names_are : (rows : FactRows) (names : List (String Global)) → names ≡ map (λ (file : FileRow). file.name) rows.files.items
    → map string_bytes names ≡ map (λ file. file.name) (plain_facts rows).files
names_are rows names files =
    ap (map string_bytes) files ∙ map_of_map (λ (file : FileRow). file.name) string_bytes rows.files.items
    ∙ sym (map_of_map plain_file (λ file. file.name) rows.files.items)
