-- What the crates above may cite. The other files of lemmas here are this crate's own.

-- how short texts are made, and where they meet
pub use Rattle.ssr_syntax_shorts.proofs.Joined.{is_as_it_is, is_in_parentheses, is_joined, joined_outside, joined_places}
-- what is read of a short text tells what is read of the long one
pub use Rattle.ssr_syntax_shorts.proofs.LongRead.{read_told}
