-- The laws of building that the crates above may cite. The other files of lemmas here are this crate's own.

-- what each workspace keeps that is built
pub use Rattle.ssr_base.proofs.Built.{built_read, built_read_of, is_built}
-- what is added leaves the files as they are
pub use Rattle.ssr_base.proofs.Added.{added_files}
-- nodes begin in their order
pub use Rattle.ssr_base.proofs.Finding.{starts_sorted}
