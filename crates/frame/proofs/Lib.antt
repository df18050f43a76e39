-- Lemmas on frames, for the crates above.
pub mod Determined
