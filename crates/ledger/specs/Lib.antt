-- What the contracts of the ledger cite.
pub mod Figures
pub mod Faults
pub mod Changes
pub mod Bounds
