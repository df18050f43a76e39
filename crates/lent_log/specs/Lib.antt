-- What the contracts of the log cite.
pub mod Entries
pub mod Changes
