-- What the contracts of a carrier cite.
pub mod Refusals
pub mod Meaning
pub mod Laws
pub mod Declines
pub mod Changes
pub mod Questions
pub mod Model
