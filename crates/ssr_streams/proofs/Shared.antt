-- The lemmas that the crates above may cite. The other files of lemmas here are this crate's own.

-- texts that are sent in pieces
pub use Rattle.ssr_streams.proofs.Pieces.{HasSent, piece_whole, sent_whole}
