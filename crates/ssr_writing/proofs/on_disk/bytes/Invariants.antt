use Rattle.std.proofs.Common.{◌≡◌, take}
use Rattle.ssr_writing.specs.Private.Noted.{bytes_of}
use Rattle.ssr_writing.proofs.on_disk.bytes.Given as goal

abbrev pub invariant-loop-byte : goal.invariant-loop-byte
invariant-loop-byte l = bytes_of l.all.items ≡ take l.byte-index l.given
