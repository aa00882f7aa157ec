use Rattle.std.proofs.Common.{◌≡◌, ◌<◌, All, filter, length, take}
use Rattle.ide_ssr_edited.specs.Expected.{lies_in}
use Rattle.ide_ssr_edited.proofs.expected.places_in.Given as goal

abbrev pub invariant-loop-place : goal.invariant-loop-place
invariant-loop-place l = record {
  so_far : l.places.items ≡ filter (lies_in l.kept l.fn.file.0) (take l.place-index l.place-items);
  within : All (λ n. n < length l.kept.matches) l.places.items;
}
