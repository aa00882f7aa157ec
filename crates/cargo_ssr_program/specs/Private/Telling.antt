-- Private: what is left as it is where lines are told.
use Rattle.std.specs.Prelude.{◌≡◌}
use Rattle.cargo_ssr_program.specs.declared.console.Console.{Console}

-- nothing is sent, and a terminal shows what it did
abbrev pub TellsOnly : {W E : Type 0} → Console W E → Console W E → Type 0
TellsOnly old new = (new.out ≡ old.out) × (new.terminal ≡ old.terminal)
