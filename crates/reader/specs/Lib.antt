pub mod Refusals
pub mod Kinds
pub mod Commands
pub mod Readings
pub mod Laws
pub mod Taking
