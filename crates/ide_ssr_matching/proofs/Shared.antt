-- The lemmas that the crates above may cite. The other files of lemmas here are this crate's own.

-- the relation and what is computed along the pattern
pub use Rattle.ide_ssr_matching.proofs.Agreement.{bindings_of-Matches, Matches-bindings_of}
-- what a match binds
pub use Rattle.ide_ssr_matching.proofs.Bound.{placeholders_bound, placeholders_are}
-- what the first phase accepts
pub use Rattle.ide_ssr_matching.proofs.Shapes.{have_shape}
-- where that stands
pub use Rattle.ide_ssr_matching.proofs.Held.{held_in, held_apart}
-- how calls that match are put together
pub use Rattle.ide_ssr_matching.proofs.CallParts.{IsCalled, IsMethodMatch, method_match, HasMethod, has_method, callee_used}
