-- The laws of tokens that the crates above may cite. The other files of lemmas here are this crate's own.

-- the tokens of a text are the whole text in order
pub use Rattle.ssr_syntax_lex.proofs.Tiling.{tokens_tile, tiles_spell}
-- they are joint before punctuation, and known by their rows
pub use Rattle.ssr_syntax_lex.proofs.Joints.{AreJoint, tokens_joint}
pub use Rattle.ssr_syntax_lex.proofs.FromRows.{rows_known}
-- they are those of two texts side by side at a bracket, a comma or `;`
pub use Rattle.ssr_syntax_lex.proofs.SeamLaws.{before_seam, behind_seam, cut_before_seam, cut_behind_seam, seam_begins, seam_ends}
pub use Rattle.ssr_syntax_lex.proofs.SeamPlaces.{same_places}
