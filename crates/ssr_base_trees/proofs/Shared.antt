-- The laws of workspaces that the crates above may cite. The other files of lemmas here are this crate's own, but for `Changes`.

-- what each workspace keeps that is built
pub use Rattle.ssr_base_trees.proofs.Built.{built_none, built_none_of, built_file, built_expansion}
-- original ranges
pub use Rattle.ssr_base_trees.proofs.Ranges.{lies_in_file, run_lies_in_file, spans_nest, boundary_passes, span_of_text}
-- trees and nodes by their numbers
pub use Rattle.ssr_base_trees.proofs.Numbers.{placed_first, placed_earlier, length-trees, placed-file, tree_of_file, same_nodes, id_ties}
pub use Rattle.ssr_base_trees.proofs.Placing.{placed_within, placed_there, tree_within, file_there, none_there}
-- covers of origins
pub use Rattle.ssr_base_trees.proofs.CoverLaws.{join-assoc}
pub use Rattle.ssr_base_trees.proofs.CoverSpans.{fit_covered}
-- what stands above nodes
pub use Rattle.ssr_base_trees.proofs.Above.{is_up, reaches_its_file, root_found, told_is, climbed_next, above_inner, climbed_on}
-- what a path stands for
pub use Rattle.ssr_base_trees.proofs.SameRes.{same_res-equal, same_res-itself}
-- what options hold
pub use Rattle.ssr_base_trees.proofs.Placing.{some_and, and_some, mapped}
