-- The lemmas that the crates above may cite. The other files of lemmas here are this crate's own.

-- where the texts of changes stand in a part of a text
pub use Rattle.ssr_standing.proofs.Places.{BeginsIn}
pub use Rattle.ssr_standing.proofs.Standings.{if_ok_same, part_short}
-- when changes stand in a part
pub use Rattle.ssr_standing.proofs.PartChanges.{in_text, stands_as}
-- what is told of changes one by one
pub use Rattle.ssr_standing.proofs.Settled.{IsInPlace, fit_told, fits_told, fitted_in_place, order_all, order_told, settled_in_place, text_behind, told_more, untold_more}
