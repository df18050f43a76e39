pub mod Entries
pub mod Carrying
pub mod Model
