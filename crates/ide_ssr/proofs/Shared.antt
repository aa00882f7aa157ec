-- The lemmas that the crates above may cite. The other files of lemmas here are this crate's own.

-- a search comes to one edit for each file or to one clash, and without expansions to no clash
pub use Rattle.ide_ssr.proofs.OneEach.{one_edit_each, one_clash_each, edits_or_clash_each, none_clash}
-- where each rule has a template, there are edits or a clash
pub use Rattle.ide_ssr.proofs.SomeOutcome.{answer_exists_each}
