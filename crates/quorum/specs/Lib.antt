pub mod Frames
pub mod Machine
pub mod DoubleEcho
pub mod EchoInvariant
pub mod Parts
pub mod Network
pub mod Runs
