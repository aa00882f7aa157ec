-- The laws of tokens and of the trees' rows that the crates above may cite. The other files of lemmas here are this crate's own.

-- the tokens of a text, one behind another
pub use Rattle.ssr_syntax_rows.proofs.Tiles.{length-token, tiled_texts, tiles_within, tiles_count, boundary, spelled-pieces}
-- a text without the white space around it
pub use Rattle.ssr_syntax_rows.proofs.Trimming.{IsUtf8-trim, trim_shorter}
-- solid tokens, and what they are joined from
pub use Rattle.ssr_syntax_rows.proofs.SolidLaws.{is_mark, mark_solid, mark_no_ident, AreJoined, are_joined, kind_of, all_solid}
-- those of texts side by side at a bracket, a comma or `;`
pub use Rattle.ssr_syntax_rows.proofs.Seams.{solid_seam, pieces_seam}
-- what is taken in the trees of a grammar
pub use Rattle.ssr_syntax_rows.proofs.Solidity.{IsTaken, AreTaken, goals_taken, AllSolid, leaves_solid}
-- tokens that were taken, laid over those of a text
pub use Rattle.ssr_syntax_rows.proofs.Laid.{AreSolid, total, total-leaves, laid, laid-append, by_kind, trivia-behind, upto-zero, upto-add, upto-past, upto-behind_trivia, past-zero}
-- what is written of a forest
pub use Rattle.ssr_syntax_rows.proofs.Leaves.{joined_of, writes_parts}
-- the tokens of the tree, told by the joined ones
pub use Rattle.ssr_syntax_rows.proofs.TreeTokens.{taken_rows, behind_nothing, joined_taken}
-- tokens that are texts
pub use Rattle.ssr_syntax_rows.proofs.Wholes.{AreTexts, texts-append, texts_spelled, texts_split}
-- the whole tree of a text
pub use Rattle.ssr_syntax_rows.proofs.Wholes.{whole-tokens, whole-depth, whole-source, whole-texts, start_of, whole_parts, count_fits}
-- where white space and comments don't stand
pub use Rattle.ssr_syntax_rows.proofs.Trimmed.{solid_sides, trimmed-whole, trimmed-root}
