use Rattle.std.proofs.Common.{◌≡◌, length, map, take, string_bytes}
use Rattle.ssr_writing.specs.Disk.{temporary_of}
use Rattle.ssr_writing.proofs.writing.temporary_paths.Given as goal

abbrev pub invariant-loop-file : goal.invariant-loop-file
invariant-loop-file l = record {
  count : length l.paths.items ≡ l.file-index;
  beside : map string_bytes l.paths.items ≡ map temporary_of (take l.file-index l.files);
}
