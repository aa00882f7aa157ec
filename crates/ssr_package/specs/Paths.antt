-- Paths as texts: parts with slashes between them.
use Rattle.std.specs.Prelude.{ℕ, ◌-◌, ◌==◌, ◌||◌, nat_eq, Bool, if◌then◌else◌, List, [], ◌∷◌, ◌++◌, Option, Some, None, Vec, length, map, fold, take, codes, slice_index, option_map}
use Rattle.std.specs.List.{slice_split, ends_with}
use Rattle.std.specs.Str.{bytes_eq}
use Rattle.std.specs.declared.alloc.Global.{Global}
use denote.Ref.{Bor}

abbrev pub Text : Type 0
Text = List ℕ

-- the texts that references point to
abbrev pub texts : Vec (Bor Text) Global → List Text
texts v = map (λ part. part.now) v.items

-- the path of a name in a folder; the folder that paths count from has the empty path
abbrev pub within : Text → Text → Text
within [] name = name
within (c ∷ cs) name = (c ∷ cs) ++ (47 ∷ name)

-- the parts of a path, between its slashes
abbrev pub parts : Text → List Text
parts path = slice_split (λ b. b == 47) path

-- the path of these parts
abbrev pub joined : List Text → Text
joined names = fold within [] names

-- the folder above, which the folder that paths count from has not
abbrev pub above : List Text → Option (List Text)
above [] = None
above (name ∷ names) = Some (take (length (name ∷ names) - 1) (name ∷ names))

-- a part that is empty or `.` leads nowhere
abbrev pub leads_nowhere : Text → Bool
leads_nowhere part = bytes_eq part [] || bytes_eq part (codes ".")

-- one part further from a folder
abbrev pub step : Option (List Text) → Text → Option (List Text)
step None part = None
step (Some folder) part =
    if leads_nowhere part then Some folder else
    if bytes_eq part (codes "..") then above folder else Some (folder ++ part ∷ [])

-- where parts lead from a folder
abbrev pub walked : Option (List Text) → List Text → Option (List Text)
walked folder path = fold step folder path

abbrev pub is_absolute : Text → Bool
is_absolute path = slice_index path 0 == 47

-- the path of a name in a folder of the file system
abbrev pub path_in : Text → Text → Text
path_in folder name =
    if is_absolute name then name else
    if ends_with nat_eq folder (codes "/") then folder ++ name else within folder name

-- the path without empty parts, `.` and `..` that a path stands for from a folder on, if it stays inside
abbrev pub normal : Text → Text → Option Text
normal folder path =
    if is_absolute path then None else option_map joined (walked (walked (Some []) (parts folder)) (parts path))
