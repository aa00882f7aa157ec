-- What an answer says of what was due.
use Rattle.std.specs.Prelude.{◌≡◌, Option, Some, None, Result, Ok, Err}
use Rattle.ssr_facts_rows.specs.declared.rows_error.RowsError.{RowsError}
use Rattle.ssr_facts_rows.specs.declared.rows_error.RowsError.TheVariants.{NotJson, Shape, Memory}

-- An answer of a reader says what is due, as it is seen. Want of memory says nothing.
abbrev pub Gives : {A R : Type 0} → (R → A) → Option A → Result R RowsError → Type 0
Gives plain due (Ok row) = due ≡ Some (plain row)
Gives plain due (Err Shape) = due ≡ None
Gives plain due (Err Memory) = Unit {0}
Gives plain due (Err NotJson) = ⊥
