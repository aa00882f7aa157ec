use Rattle.std.proofs.Common.{◌≡◌, ℕ, length, take}
use Rattle.std.specs.Prelude.{Contains}
use Rattle.ide_ssr_rewriting.specs.Edits.{list_at}
use Rattle.ide_ssr_rewriting.specs.Private.Edits.{text_in}
use Rattle.ide_ssr_rewriting.proofs.editing.take_list.Given as goal

abbrev pub invariant-loop-place : goal.invariant-loop-place
invariant-loop-place l = record {
  list : l.list.items ≡ list_at l.kept (text_in l.initial.texts.items) (take l.place-index l.places);
  others : (n : ℕ) → (Contains (take l.place-index l.places) n → ⊥) → text_in l.texts.items n ≡ text_in l.initial.texts.items n;
  counted : length l.texts.items ≡ length l.initial.texts.items;
}
