-- Lemmas on the wire, for this crate and those above.
pub mod Kept
pub mod Fresh
