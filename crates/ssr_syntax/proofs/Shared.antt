-- The laws of texts and their trees that the crates above may cite. The other files of lemmas here are this crate's own.

-- what is read has a tree that fits, and the tokens of a file's tree are texts
pub use Rattle.ssr_syntax.proofs.TextLaws.{file_sound, file_sound_of, file_texts, file_texts_of, file_read, file_read_of, read_stated, fragment_sound, fragment_sound_of}
pub use Rattle.ssr_syntax.proofs.ExpansionLaws.{expansion_sound, expansion_sound_of}
-- why a file isn't read
pub use Rattle.ssr_syntax.proofs.MemoryFree.{file_needs_none}
-- identifiers in the tree of a fragment
pub use Rattle.ssr_syntax.proofs.IdentTexts.{fragment_idents, fragment_idents_of, fragment_alone, fragment_alone_of}
-- paths in the tree of a fragment can be told
pub use Rattle.ssr_syntax.proofs.ClearTexts.{fragment_clear, fragment_clear_of}
-- the tokens of a text, one behind another; tokens that are texts; a text without the white space around it
pub use Rattle.ssr_syntax_rows.proofs.Shared.{length-token, tiled_texts, tiles_within, tiles_count, boundary, spelled-pieces, AreTexts, texts-append, texts_spelled, texts_split, IsUtf8-trim, trim_shorter}
