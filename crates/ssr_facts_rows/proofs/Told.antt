-- What bytes are told to say, from what their JSON is.
use Rattle.std.proofs.Common.{◌≡◌, ℕ, List, Bool, true, false, cond, Option, Some, None, Result, Ok, Err, ap, refl}
use Rattle.std.specs.Str.{IsUtf8, is_utf8}
use Rattle.std.proofs.lemmas.Str.{IsUtf8-from_is_utf8, is_utf8-from_IsUtf8}
use Rattle.serde_json.specs.Data.{Data}
use Rattle.serde_json.specs.Read.{read}
use Rattle.ssr_facts_rows.specs.Private.Answers.{Gives}
use Rattle.ssr_facts_rows.specs.Facts.{plain_facts, rows_of, json_of, facts_in, facts_of, Tells}
use Rattle.ssr_facts_rows.specs.declared.facts.FactRows.{FactRows}
use Rattle.ssr_facts_rows.specs.declared.rows_error.RowsError.{RowsError}
use Rattle.ssr_facts_rows.specs.declared.rows_error.RowsError.TheVariants.{NotJson, Shape, Memory}

read_json : (bytes : List ℕ) (d : Data) → IsUtf8 bytes → read bytes ≡ Some d → json_of bytes ≡ Some d
read_json bytes d utf8 e = rw (is_utf8-from_IsUtf8 bytes utf8) e

-- of the rows of the JSON
pub told : (bytes : List ℕ) (d : Data) (answer : Result FactRows RowsError)
    → IsUtf8 bytes → read bytes ≡ Some d → Gives plain_facts (rows_of d) answer → Tells (facts_of bytes) answer
unfolding facts_of
told bytes d (Ok rows) utf8 e gives = rw (read_json bytes d utf8 e, gives) refl
told bytes d (Err Memory) utf8 e gives = tt
told bytes d (Err Shape) utf8 e gives = rw (read_json bytes d utf8 e, gives) refl
told bytes d (Err NotJson) utf8 e gives = absurd gives

no_json_at : (b : Bool) (read_to : Option Data) → (b ≡ true → read_to ≡ None) → cond b read_to None ≡ None
no_json_at true read_to none = none refl
no_json_at false read_to none = refl

-- of bytes without JSON
pub no_json : (bytes : List ℕ) → (IsUtf8 bytes → read bytes ≡ None) → facts_of bytes ≡ Err NotJson
unfolding facts_of
no_json bytes none = ap facts_in (no_json_at (is_utf8 bytes) (read bytes) (λ h. none (IsUtf8-from_is_utf8 bytes h)))
