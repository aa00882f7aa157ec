-- Names of files, as paths from the folder of a run.
use Rattle.std.specs.Prelude.{ℕ, ◌&&◌, nat_eq, Bool, not, if◌then◌else◌, List, codes, filter}
use Rattle.std.specs.List.{list_any, starts_with}
use Rattle.std.specs.Str.{bytes_eq}
use Rattle.ssr_package.specs.Paths.{is_absolute, joined, leads_nowhere, parts}

-- a name leads nowhere but into the folder: no slash stands in front, and no part is `..`
abbrev pub is_inside : List ℕ → Bool
is_inside name = not (is_absolute name) && not (list_any (λ part. bytes_eq part (codes "..")) (parts name))

-- the parts of a name that lead somewhere: neither empty nor `.`
abbrev pub parts_of : List ℕ → List (List ℕ)
parts_of name = filter (λ part. not (leads_nowhere part)) (parts name)

-- the normal name of a file, made of these parts; one that leads out of the folder stays as it is
abbrev pub normal : List ℕ → List ℕ
normal name = if is_inside name then joined (parts_of name) else name

-- a normal name leads below the folder `target`
abbrev pub is_below_target : List ℕ → Bool
is_below_target name = starts_with nat_eq name (codes "target/")
