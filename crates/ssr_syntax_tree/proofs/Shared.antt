-- The laws of trees that the crates above may cite. The other files of lemmas here are this crate's own, but for `Lists`.

-- nodes and their numbers
pub use Rattle.ssr_syntax_tree.proofs.Places.{node_of-number, below_fits, smaller, firsts_grow}
pub use Rattle.ssr_syntax_tree.proofs.Nodes.{node_is, node_left, node_found, node_passed, none_found}
-- how many nodes and tokens there are
pub use Rattle.ssr_syntax_tree.proofs.Siblings.{length-nodes_in, length-tokens_in}
pub use Rattle.ssr_syntax_tree.proofs.RowLaws.{length-nodes_of}
-- the texts of tokens
pub use Rattle.ssr_syntax_tree.proofs.RowLaws.{spelled-texts}
-- nodes above one another
pub use Rattle.ssr_syntax_tree.proofs.Above.{IsOver, IsInside, inside, root_size, below_root, over_within, Holding, holding}
pub use Rattle.ssr_syntax_tree.proofs.Places.{depth_at-root, depth_at-parent}
-- the children of a node
pub use Rattle.ssr_syntax_tree.proofs.Places.{IsChild, children_known, elements_had, parts_of-elements_of}
-- ranges
pub use Rattle.ssr_syntax_tree.proofs.RowLaws.{offset_grows}
pub use Rattle.ssr_syntax_tree.proofs.Ranges.{start_before_end, start_of-below, end_of-below, ranges_apart, IsOf}
