use Rattle.std.proofs.Common.{◌≡◌, map, take}
use Rattle.ssr_uses.specs.Findings.{told_by, told_of}
use Rattle.ssr_uses.proofs.listing.findings.Given as goal

abbrev pub invariant-loop-m : goal.invariant-loop-m
invariant-loop-m g l = record {
  told : map told_by l.findings.items ≡ map told_of (take l.m-index l.m-items);
}
