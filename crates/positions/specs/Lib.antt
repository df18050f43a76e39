pub mod Trades
pub mod Positions
pub mod Laws
pub mod Netted
pub mod Sample
pub mod Entries
pub mod Model
