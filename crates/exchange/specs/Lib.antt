-- A carrier over a broadcast protocol: its exact steps, what they keep, and what follows.
pub mod Broadcast
pub mod Exact
pub mod Steps
pub mod Kept
