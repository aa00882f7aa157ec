-- The lemmas that the crates above may cite. The other files of lemmas here are this crate's own.

-- what is found are matches, and it is one list
pub use Rattle.ide_ssr_search.proofs.Matched.{are_matches, are_matches_of, one_list}
pub use Rattle.ide_ssr_search.proofs.SomeFound.{some_found}
-- the nodes that are permitted for a rule are those of some list
pub use Rattle.ide_ssr_search.proofs.SomePermitted.{some_permitted}
-- a search is made for something, and for one thing, or refused, and in one way
pub use Rattle.ide_ssr_search.proofs.Contexts.{one_context, one_making}
pub use Rattle.ide_ssr_search.proofs.SomeContext.{context_exists, making_exists}
-- what stands above a node, by one step
pub use Rattle.ide_ssr_search.proofs.Trees.{then_some, below_up, up_below}
-- which nodes are open to all rules
pub use Rattle.ide_ssr_search.proofs.Opening.{opened, not_shut, not_use, open_range}
-- a whole match binds what is computed
pub use Rattle.ide_ssr_search.proofs.Placed.{whole_binds}
-- a byte is one of one token, and a file has a tree
pub use Rattle.ide_ssr_search.proofs.PositionNodes.{one_token, byte_within}
pub use Rattle.ide_ssr_search.proofs.FirstFile.{file_there}
