-- Private: what reading to the end answers.
use Rattle.std.specs.Prelude.{◌≡◌, ℕ, ◌+◌, Result, Ok, Err, Vec}
use Rattle.ssr_program.specs.declared.transfer.ReadError.{ReadError}
use Rattle.ssr_program.specs.declared.transfer.ReadError.TheVariants.{Failed, Memory}
use Rattle.ssr_streams.specs.Streams.{Given, IsRead}

-- all bytes that a source had left were read; or there was no memory; or a read failed
abbrev pub ReadsAll : {A : Type 0} → Given → Given → Result (Vec ℕ A) ReadError → Type 0
ReadsAll old new (Ok input) = IsRead old new input.items
ReadsAll old new (Err Memory) = new.failures ≡ old.failures
ReadsAll old new (Err Failed) = new.failures ≡ old.failures + 1
