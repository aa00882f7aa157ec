-- Private: the texts of sides with stand-ins.
use Rattle.std.specs.Prelude.{ℕ, ◌≡◌, List}
use Rattle.std.specs.Str.{IsUtf8}
use Rattle.ide_ssr_rules.specs.declared.elements.Element.{Element}
use Rattle.ide_ssr_rules.specs.StandIns.{code_of}

-- a side is read as this text
abbrev pub IsTextOf : List Element → List ℕ → Type 0
IsTextOf elements text = (text ≡ code_of elements) × IsUtf8 text
