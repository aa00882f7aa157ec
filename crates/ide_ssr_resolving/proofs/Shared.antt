-- The lemmas that the crates above may cite. The other files of lemmas here are this crate's own.

-- what placeholders a used path has stand in its arguments
pub use Rattle.ide_ssr_resolving.proofs.InArguments.{are_in_arguments}
-- what is known of used paths and of qualified calls, by the numbers of their nodes
pub use Rattle.ide_ssr_resolving.proofs.UsedNodes.{IsUsed, all_used, used_kind, used_once, outermost}
pub use Rattle.ide_ssr_resolving.proofs.Alone.{not_alone}
pub use Rattle.ide_ssr_resolving.proofs.Callees.{are_calls, first_argument, in_first_argument}
