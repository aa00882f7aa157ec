-- The lemmas that the crates above may cite. The other files of lemmas here are this crate's own.

-- a search comes to one outcome
pub use Rattle.ssr_searching.proofs.Outcomes.{OutcomeExists, one_outcome, outcome_exists}
