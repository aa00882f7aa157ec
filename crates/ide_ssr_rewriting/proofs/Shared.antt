-- The lemmas that the crates above may cite. The other files of lemmas here are this crate's own.

-- the texts of kept matches, and the edits that are answered
pub use Rattle.ide_ssr_rewriting.proofs.Answering.{one_edit, edits_or_clash}
pub use Rattle.ide_ssr_rewriting.proofs.OneClash.{one_clash}
pub use Rattle.ide_ssr_rewriting.proofs.SomeAnswer.{answer_exists}
-- no clash without expansions
pub use Rattle.ide_ssr_rewriting.proofs.Clashless.{no_clash}
-- places that are gone through
pub use Rattle.ide_ssr_rewriting.proofs.Taken.{not_before}
-- where what placeholders hold comes from
pub use Rattle.ide_ssr_rewriting.proofs.Fits.{held_in_file}
