-- The lemmas that the crates above may cite. The other files of lemmas here are this crate's own, but for `Deciding`.

-- trees and nodes of a workspace
pub use Rattle.ide_ssr_bindings.proofs.Nodes.{IsTree, is_tree, of_tree, in_tree, told_node, has_node}
-- what a match holds
pub use Rattle.ide_ssr_bindings.proofs.Holding.{has_held}
