-- Lemmas on cells, for this crate and those above.
pub mod Pieces
pub mod Known
