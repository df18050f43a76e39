-- What the contracts of the wire cite.
pub mod Posted
pub mod Declines
pub mod Changes
