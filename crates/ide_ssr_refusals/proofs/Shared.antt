-- The lemmas that the crates above may cite.

-- how an error that tells one reading's refusal tells that of a larger one
pub use Rattle.ide_ssr_refusals.proofs.Telling.{tells_memory, tells_refusal, tells_first, after_ok, went, ok_same}
