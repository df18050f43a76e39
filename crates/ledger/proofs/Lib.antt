-- Lemmas on ledgers, for this crate and those above.
pub mod Places
pub mod Listed
pub mod Bounds
