pub mod Kinds
pub mod Refusals
pub mod Frames
pub mod Readings
pub mod Laws
