-- The files that a `mod` item without a body may stand for.
use Rattle.std.specs.Prelude.{Bool, true, false, if◌then◌else◌, List, [], ◌∷◌, ◌++◌, Option, map, codes, string_bytes, option_map}
use Rattle.std.specs.Option.{option_and_then}
use Rattle.ssr_package.specs.declared.candidates.Candidate.{Candidate}
use Rattle.ssr_package.specs.Paths.{Text, within, normal}

-- a file: its name, where it lies inside, and whether its modules lie in its own folder
abbrev pub Place : Type 0
Place = Option Text × Bool

abbrev pub seen : Candidate → Place
seen c = (option_map string_bytes c.name, c.owns_folder)

-- where a path leads from a folder
abbrev pub at_path : Option Text → Text → Option Text
at_path folder path = option_and_then (λ f. normal f path) folder

-- the path of a name with an ending, in a folder
abbrev pub at_name : Option Text → Text → Text → Option Text
at_name folder name ending = option_map (λ f. within f name ++ ending) folder

-- the file at a path from a folder on
abbrev pub file_at : Option Text → Text → Place
file_at folder path = (at_path folder path, true)

-- the files of a name: `name.rs`, and `mod.rs` in a folder of the name
abbrev pub files_of : Option Text → Text → List Place
files_of folder name = (at_name folder name (codes ".rs"), false) ∷ ((at_name folder name (codes "/mod.rs"), true) ∷ [])

-- those at the paths of attributes, and those of the name, unless a path is given under no condition
abbrev pub candidates : Option Text → Option Text → Text → List Text → Bool → List Place
candidates path_folder name_folder name paths is_certain =
    map (file_at path_folder) paths ++ (if is_certain then [] else files_of name_folder name)
