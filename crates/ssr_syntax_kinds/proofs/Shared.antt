-- The laws of kinds that the crates above may cite. The other files of lemmas here are this crate's own, but for `Zips`.
pub use Rattle.ssr_syntax_kinds.proofs.SameKinds.{same_kind-equal, equal-same_kind}
