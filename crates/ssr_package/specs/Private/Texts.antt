-- Private: texts that are kept by names, and what notes tell.
use Rattle.std.specs.Prelude.{ℕ, List, String, All, map, string_bytes}
use Rattle.std.specs.declared.alloc.Global.{Global}
use Rattle.ssr_package.specs.declared.source_file.SourceFile.{SourceFile}
use Rattle.ssr_package.specs.declared.texts.Texts.{Texts}
use Rattle.ssr_package.specs.Reads.{Gave, WasRead}
use Rattle.ssr_package.specs.Paths.{Text}

-- a name with a text
abbrev pub Named : Type 0
Named = String Global × String Global

abbrev pub named : SourceFile → Named
named file = (file.name, file.text)

-- each of the texts was read at the place of its name
pub record AreKept (gave : List Gave) (texts : Texts) : Type 0 where
  pub each : All (λ text. WasRead gave (string_bytes texts.folder) (string_bytes text.0) (string_bytes text.1)) texts.by_name.entries

-- the bytes that notes keep
abbrev pub bytes_of : {A : Type 0} → List (ℕ × A) → Text
bytes_of entries = map (λ entry. entry.0) entries
