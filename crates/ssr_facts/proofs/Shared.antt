-- The lemmas that the crates above may cite. The other files of lemmas here are this crate's own.

-- of bytes one thing is told, and the workspace is built
pub use Rattle.ssr_facts.proofs.OneAnswer.{TellAlike, AnswerAlike, one_answer, told_built}
