pub mod Entering
pub mod Carry
