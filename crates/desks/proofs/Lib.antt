pub mod Bits
pub mod Passed
pub mod Joining
