-- What the crates above may cite. The other files of lemmas here are this crate's own.

-- what fits in a reach, step by step
pub use Rattle.ssr_syntax_places.proofs.InReach.{FitsIn}
-- atoms
pub use Rattle.ssr_syntax_places.proofs.Atoms.{literal_stands}
pub use Rattle.ssr_syntax_places.proofs.Paths.{path_stands}
pub use Rattle.ssr_syntax_places.proofs.Parentheses.{paren_stands}
-- what binds tightly stands where it may bind loosely
pub use Rattle.ssr_syntax_places.proofs.Climbing.{stands_looser, stands_uncalled, stands_anywhere, stands_before}
-- operators and what goes on with an expression
pub use Rattle.ssr_syntax_places.proofs.Operators.{prefix_stands, reference_stands, mut_reference_stands, binary_stands}
pub use Rattle.ssr_syntax_places.proofs.Postfixes.{try_stands, index_stands, call_stands, method_call_stands, field_stands, number_stands}
-- what fits before some tokens fits before others
pub use Rattle.ssr_syntax_places.proofs.Ahead.{looks, SameSight, ahead}
pub use Rattle.ssr_syntax_places.proofs.Closing.{keeps_braces, test_stops, stops, AllStop, closes, closing}
pub use Rattle.ssr_syntax_places.proofs.Delimiters.{whole_keeps, whole_behind}
pub use Rattle.ssr_syntax_places.proofs.Delimited.{all_stop, delimited_alike, block_anywhere}
pub use Rattle.ssr_syntax_places.proofs.Alone.{alone_before}
pub use Rattle.ssr_syntax_places.proofs.WholeTokens.{whole_solid}
-- templates, filled
pub use Rattle.ssr_syntax_places.proofs.Filling.{filled_append, spelled, single_filled}
pub use Rattle.ssr_syntax_places.proofs.CoreStands.{core_stands}
pub use Rattle.ssr_syntax_places.proofs.Fillings.{stands_fills, alone_fills, filled_fits}
-- nodes in the places of others
pub use Rattle.ssr_syntax_places.proofs.Alike.{Alike, alike_front, alike_open, stops_open}
pub use Rattle.ssr_syntax_places.proofs.Placed.{goal_spelled, is_clear, is_owner, Owned, made_anew}
pub use Rattle.ssr_syntax_places.proofs.Delimited.{blocks_owned}
pub use Rattle.ssr_syntax_places.proofs.Blocks.{blocks_replaced, block_put}
-- the insides of brackets in a text
pub use Rattle.ssr_syntax_places.proofs.Insides.{put_inside, cut_inside}
pub use Rattle.ssr_syntax_places.proofs.Cuts.{many_cut, woven_replaced}
pub use Rattle.ssr_syntax_places.proofs.Woven.{woven_lexes, woven_filled}
pub use Rattle.ssr_syntax_places.proofs.LongTexts.{long_fits}
-- ranges and assignments
pub use Rattle.ssr_syntax_places.proofs.Loosest.{range_anywhere, inclusive_anywhere, assignment_anywhere}
-- what is read of a text, the forest behind it, and which of these are core
pub use Rattle.ssr_syntax_places.proofs.Behind.{forest_behind}
pub use Rattle.ssr_syntax_places.proofs.Reading.{fragment_told}
pub use Rattle.ssr_syntax_places.proofs.LikeForests.{forest_size}
pub use Rattle.ssr_syntax_places.proofs.PlainCore.{tree_core}
pub use Rattle.ssr_syntax_places.proofs.ReadAlone.{read_alone}
-- templates, node by node
pub use Rattle.ssr_syntax_places.proofs.Templates.{IsName, IsOwn, IsTemplate, IsNodeTemplate, AreSpelled, core_template, arguments_template, filled_spelled, node_tokens}
-- long texts that are read by short ones
pub use Rattle.ssr_syntax_places.proofs.NamedParts.{named_paired}
pub use Rattle.ssr_syntax_places.proofs.LongReading.{long_whole, long_read}
pub use Rattle.ssr_syntax_places.proofs.FilledDepth.{long_depth}
pub use Rattle.ssr_syntax_places.proofs.LongNodes.{long_nodes, read_nodes}
-- which nodes have parts of joined tokens as children
pub use Rattle.ssr_syntax_places.proofs.PartLeaves.{Parts, may_have, suits, keeps_parts, any_part, other_part, IsWholeLeaf, IsPartLeaf, HasLeaves, HasParts, IsTold, IsMade, has_parts}
-- of how many tokens those of a text are joined
pub use Rattle.ssr_syntax_places.proofs.RawKinds.{IsSingle, AllSingle, all_raw_single}
pub use Rattle.ssr_syntax_places.proofs.TokenSizes.{IsSized, AreSized, all_sized}
