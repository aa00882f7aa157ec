-- The places of files.
use Rattle.std.specs.Prelude.{◌||◌, ◌==◌, not, nat_eq, Bool, if◌then◌else◌, [], Option, Some, None, codes, slice_index, unwrap_or}
use Rattle.std.specs.Path.{path_parent, path_file_name, path_file_stem}
use Rattle.std.specs.List.{starts_with, ends_with}
use Rattle.ssr_package.specs.Paths.{Text, within}

-- the folder that a file lies in, and the last part of a path
abbrev pub file_folder : Text → Text
file_folder name = unwrap_or (path_parent name) []

abbrev pub last_part : Text → Text
last_part path = unwrap_or (path_file_name path) []

-- the last part of a path without its ending
abbrev pub stem : Text → Text
stem path = unwrap_or (path_file_stem path) []

-- the folder of a file's modules: that of the file, or one beside the file that has its name without the ending
abbrev pub module_folder : Text → Bool → Text
module_folder name owns_folder =
    if owns_folder then file_folder name else within (file_folder name) (stem name)

-- a name that lies neither below `target` nor below `vendor`
abbrev pub is_ours : Text → Bool
is_ours name = not (starts_with nat_eq name (codes "target/") || starts_with nat_eq name (codes "vendor/"))

-- a name of a hidden file or folder
abbrev pub is_hidden : Text → Bool
is_hidden name = slice_index name 0 == 46

-- the file of the target that a file or a folder of this name makes in a folder of targets
abbrev pub default_target : Text → Text → Bool → Option Text
default_target folder name is_folder =
    if is_hidden name then None else
    if is_folder then Some (within (within folder name) (codes "main.rs")) else
    if ends_with nat_eq name (codes ".rs") then Some (within folder name) else None

-- the name of that target
abbrev pub target_name : Text → Bool → Text
target_name name is_folder = if is_folder then name else stem name
