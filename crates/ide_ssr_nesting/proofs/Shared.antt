-- The lemmas that the crates above may cite. The other files of lemmas here are this crate's own.

-- the order of nodes, and of matches over one another
pub use Rattle.ide_ssr_nesting.proofs.Above.{below_is_between}
pub use Rattle.ide_ssr_nesting.proofs.Compared.{in_one_tree}
pub use Rattle.ide_ssr_nesting.proofs.Over.{one_way, over_before, not_over_itself}
-- the kept matches, and what holds them
pub use Rattle.ide_ssr_nesting.proofs.OneKept.{one_kept}
pub use Rattle.ide_ssr_nesting.proofs.SomeKept.{kept_exist}
-- what is shadowed is never kept
pub use Rattle.ide_ssr_nesting.proofs.Shadowed.{lies_at_node, kept_of_enough}
pub use Rattle.ide_ssr_nesting.proofs.OneHolding.{held_behind, one_holding}
-- their lists
pub use Rattle.ide_ssr_nesting.proofs.SomeListing.{lists_exist}
pub use Rattle.ide_ssr_nesting.proofs.InLists.{lists_what_is_held, lists_in_order, lists_each_once, one_listing}
