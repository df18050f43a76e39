pub mod Days
pub mod Meaning
pub mod Turns
pub mod Alike
