-- The temporary file beside a file.
use Rattle.std.specs.Prelude.{ℕ, List, ◌++◌, unwrap_or, codes}
use Rattle.std.specs.Path.{path_file_name, path_with_file_name}

-- the name of the temporary file of a name: of `lib.rs` it is `.lib.rs.ssr-tmp`
abbrev pub temporary_name : List ℕ → List ℕ
temporary_name name = codes "." ++ name ++ codes ".ssr-tmp"

-- it stands in the file's folder
abbrev pub temporary_path : List ℕ → List ℕ
temporary_path path = path_with_file_name path (temporary_name (unwrap_or (path_file_name path) (codes "")))
