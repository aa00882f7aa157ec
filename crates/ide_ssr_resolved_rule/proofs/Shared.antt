-- The lemmas that the crates above may cite. The other files of lemmas here are this crate's own.

-- the tokens of a node are those from its first one on
pub use Rattle.ide_ssr_resolved_rule.proofs.Tokens.{take_one, take_two, tokens_left, tokens_known, tokens_of_node}
-- which placeholder a token is, by a table of them, and what stands alone
pub use Rattle.ide_ssr_resolved_rule.proofs.Nodes.{in_table, at_table, only_one}
-- only identifiers are placeholders
pub use Rattle.ide_ssr_resolved_rule.proofs.StandIns.{not_named}
