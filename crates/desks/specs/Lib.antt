pub mod Firsts
pub mod Refusals
pub mod Sets
pub mod Forming
pub mod Sizes
