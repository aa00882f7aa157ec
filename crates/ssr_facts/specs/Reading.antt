-- What is answered of the bytes of a facts file.
use Rattle.std.specs.Prelude.{◌≡◌, List, map, Option, Result, Ok, Err, String, string_bytes, unwrap_or}
use Rattle.std.specs.Bool.{MatchBool}
use Rattle.std.specs.Global.{Global}
use Rattle.std.specs.Result.{IsOkAnd}
use Rattle.ssr_base.specs.declared.building.Expansion.{Expansion}
use Rattle.ssr_base_trees.specs.declared.ids.FilePosition.{FilePosition}
use Rattle.ssr_base.specs.declared.workspace_error.WorkspaceError.{WorkspaceError}
use Rattle.ssr_base_trees.specs.Workspace.{Workspace, file_span_of}
use Rattle.ssr_base.specs.Building.{built}
use Rattle.ssr_facts_rows.specs.declared.rows_error.RowsError.{RowsError}
use Rattle.ssr_facts_rows.specs.declared.rows_error.RowsError.TheVariants as refused
use Rattle.ssr_facts_rows.specs.Facts.{PlainFacts}
use Rattle.ssr_facts.specs.declared.facts.Facts.{Facts}
use Rattle.ssr_facts.specs.declared.facts_error.FactsError.{FactsError}
use Rattle.ssr_facts.specs.declared.facts_error.FactsError.TheVariants as errors
use Rattle.ssr_facts.specs.Naming.{all_named}
use Rattle.ssr_facts.specs.Provider.{provided}
use Rattle.ssr_facts.specs.Sources.{AreSources}
use Rattle.ssr_facts.specs.Told.{meanings_told}

-- the beginning of file 0, where no row tells a position
abbrev pub position_of : Option FilePosition → FilePosition
position_of row = unwrap_or row (record { file_id = record { 0 = 0 }; offset = 0 })

-- what rows tell of the workspace that is built of their files and expansions
pub record AreTold (rows : PlainFacts) (w : Workspace) (facts : Facts) : Type 0 where
  pub workspace : facts.workspace ≡ w
  pub meanings : provided facts.semantics ≡ meanings_told w rows
  pub names : map string_bytes facts.names.items ≡ map (λ file. file.name) rows.files
  pub position : facts.position ≡ position_of rows.position
  pub ranges : map file_span_of facts.ranges.items ≡ rows.ranges

-- the answer where a workspace is built, or refused: then that, or where a number names nothing or a row no such node, another shape
abbrev pub AnswersOf : PlainFacts → Result Workspace WorkspaceError → Result Facts FactsError → Type 0
AnswersOf rows (Err refusal) answer = answer ≡ Err (errors.Workspace refusal)
AnswersOf rows (Ok w) answer = MatchBool (all_named w rows) (IsOkAnd answer (AreTold rows w)) (answer ≡ Err errors.Shape)

-- of rows there are texts and expansions of which a workspace is built, or refused
pub record AnswersRows (rows : PlainFacts) (answer : Result Facts FactsError) : Type 0 where
  pub files : List (String Global)
  pub expansions : List Expansion
  pub sources : AreSources rows files expansions
  pub answers : AnswersOf rows (built files expansions) answer

abbrev pub IsDue : Result PlainFacts RowsError → Result Facts FactsError → Type 0
IsDue (Err refused.NotJson) answer = answer ≡ Err errors.NotJson
IsDue (Err refused.Shape) answer = answer ≡ Err errors.Shape
IsDue (Err refused.Memory) answer = ⊥
IsDue (Ok rows) answer = AnswersRows rows answer

-- An answer is what is due. Want of memory says nothing.
abbrev pub Answers : Result PlainFacts RowsError → Result Facts FactsError → Type 0
Answers due (Err errors.Memory) = Unit {0}
Answers due answer = IsDue due answer
