-- The lemmas that the crates above may cite. The other files of lemmas here are this crate's own.

-- the relation and what is computed
pub use Rattle.ide_ssr_token_trees.proofs.Agreement.{tree_bindings-TreesMatch, TreesMatch-tree_bindings}
-- what is recorded
pub use Rattle.ide_ssr_token_trees.proofs.Appended.{recorded-nil, recorded-append}
-- what is held, and which placeholders are bound
pub use Rattle.ide_ssr_token_trees.proofs.Held.{trees_held, trees_behind}
pub use Rattle.ide_ssr_token_trees.proofs.Bound.{trees_bound}
-- the same tree with higher numbers of tokens
pub use Rattle.ide_ssr_token_trees.proofs.Numbers.{bindings_later}
