-- The words of errors.
use Rattle.std.specs.Prelude.{ℕ, List, ◌++◌, Option, Some, codes, string_bytes, option_map}
use Rattle.ssr_package.specs.declared.package_error.PackageError.{PackageError}
use Rattle.ssr_package.specs.declared.package_error.PackageError.TheVariants as e
use Rattle.ssr_package.specs.Notes.{trouble_words}

-- why a package's files aren't told; the words of what the system says are left open
abbrev pub error_words : PackageError → Option (List ℕ)
error_words (e.NoManifest folder) = Some ((codes "no Cargo.toml in " ++ string_bytes folder) ++ codes " or above")
error_words (e.Unreadable path why) = option_map (λ words. (string_bytes path ++ codes ": ") ++ words) (trouble_words why)
error_words (e.NotToml path why) = Some ((string_bytes path ++ codes ": ") ++ string_bytes why)
error_words (e.NoPackage path) = Some (string_bytes path ++ codes ": neither a package nor a workspace")
error_words (e.NoSuchPackage name) = Some (codes "no package " ++ string_bytes name)
error_words (e.Outside path) = Some (string_bytes path ++ codes ": outside of the folder")
error_words (e.Missing path) = Some (string_bytes path ++ codes ": not there")
error_words e.TooMany = Some (codes "too many files")
error_words e.Memory = Some (codes "out of memory")
