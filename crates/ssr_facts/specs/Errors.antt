-- What the refusals of rows are told as.
use Rattle.ssr_facts_rows.specs.declared.rows_error.RowsError.{RowsError}
use Rattle.ssr_facts_rows.specs.declared.rows_error.RowsError.TheVariants as rows
use Rattle.ssr_facts.specs.declared.facts_error.FactsError.{FactsError}
use Rattle.ssr_facts.specs.declared.facts_error.FactsError.TheVariants as errors

abbrev pub error_of_rows : RowsError → FactsError
error_of_rows rows.NotJson = errors.NotJson
error_of_rows rows.Shape = errors.Shape
error_of_rows rows.Memory = errors.Memory
