-- What placeholders bind, where that is recorded at all.
use Rattle.std.specs.Prelude.{List, [], ◌++◌, Option, Some, None, map}
use Rattle.ide_ssr_bindings.specs.declared.bindings.Binding.{Binding}
use Rattle.ide_ssr_bindings.specs.declared.receivers.Receiver.{Receiver}
use Rattle.ide_ssr_bindings.specs.Receivers.{received}

-- what was bound so far, if that is recorded
abbrev pub Recorded : Type 0
Recorded = Option (List Binding)

-- a record that keeps what is bound where this one does, and has nothing yet
abbrev pub emptied : Recorded → Recorded
emptied None = None
emptied (Some before) = Some []

-- these bindings come behind those before
abbrev pub recorded : Recorded → List Binding → Recorded
recorded None bs = None
recorded (Some before) bs = Some (before ++ bs)

-- those of a method call with this receiver come behind those before
abbrev pub recorded_with : Receiver → Recorded → Recorded → Recorded
recorded_with r old None = old
recorded_with r None (Some held) = None
recorded_with r (Some before) (Some held) = Some (before ++ map (received r) held)
