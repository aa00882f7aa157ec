use Rattle.std.proofs.Common.{◌≡◌, take}
use Rattle.ssr_package.specs.Private.Texts.{bytes_of}
use Rattle.ssr_package.proofs.on_files.bytes.Given as goal

abbrev pub invariant-loop-byte : goal.invariant-loop-byte
invariant-loop-byte l = bytes_of l.all.items ≡ take l.byte-index l.given
