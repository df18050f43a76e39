pub mod Refusals
pub mod Forming
