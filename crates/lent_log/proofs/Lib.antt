-- Lemmas on logs, for this crate and those above.
pub mod Sizes
pub mod After
mod Writes
