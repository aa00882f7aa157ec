use Rattle.std.proofs.Common.{◌≡◌, ◌++◌, map, string_bytes}
use Rattle.ssr_changes.specs.Files.{as_they_are}
use Rattle.ssr_changes.proofs.FileLists.{left_from}
use Rattle.ssr_changes.proofs.searchable.as_they_are.Given as goal

abbrev pub invariant-loop-file : goal.invariant-loop-file
invariant-loop-file l =
    l.files.items ++ left_from (map string_bytes l.names) l.workspace.files l.file ≡ as_they_are (map string_bytes l.names) l.workspace.files
