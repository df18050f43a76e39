pub mod Steps
mod Each
mod Alike
