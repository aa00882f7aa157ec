use Rattle.std.proofs.Common.{◌≡◌, ◌++◌, take}
use Rattle.ssr_streams.specs.Private.Noted.{bytes_of}
use Rattle.ssr_streams.proofs.counted.noted.Given as goal

abbrev pub invariant-loop-byte : goal.invariant-loop-byte
invariant-loop-byte l = bytes_of l.all.items ≡ bytes_of l.initial.all.items ++ take l.byte-index l.bytes
