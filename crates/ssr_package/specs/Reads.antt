-- What a reader gave, and files that stand as they were read.
use Rattle.std.specs.Prelude.{◌==◌, ◌&&◌, if◌then◌else◌, List, [], ◌∷◌, Result, Ok, Err, String, All, Contains, map, length, codes, string_bytes}
use Rattle.std.specs.List.Sorted.{IsStrictlySortedBy}
use Rattle.std.specs.String.{string_cmp}
use Rattle.std.specs.declared.alloc.Global.{Global}
use Rattle.ssr_package.specs.Paths.{Text, path_in}
use Rattle.ssr_package.specs.declared.source_file.SourceFile.{SourceFile}

-- a text, and the path that it was read at
abbrev pub Gave : Type 0
Gave = Text × Text

-- what a reader gives that is asked for the text at a path
abbrev pub given : {E F : Type 0} → Text → Result (Result (String Global) E) F → List Gave
given path (Ok (Ok text)) = (path, string_bytes text) ∷ []
given path (Ok (Err why)) = []
given path (Err why) = []

-- the path of the file system that a name in a folder stands for; `.` is the folder where the program runs
abbrev pub place : Text → Text → Text
place folder name = if length folder == 0 && length name == 0 then codes "." else path_in folder name

-- the text was read at the place of a name in a folder
abbrev pub WasRead : List Gave → Text → Text → Text → Type 0
WasRead gave folder name text = Contains gave (place folder name, text)

-- each file's text was read at the place of its name
abbrev pub AreRead : List Gave → Text → List SourceFile → Type 0
AreRead gave folder files = All (λ file. WasRead gave folder (string_bytes file.name) (string_bytes file.text)) files

-- the files stand in the order of their names, and no name stands twice
abbrev pub AreInOrder : List SourceFile → Type 0
AreInOrder files = IsStrictlySortedBy string_cmp (map (λ file. file.name) files)
