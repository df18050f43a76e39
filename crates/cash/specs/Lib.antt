pub mod Payments
pub mod Cash
pub mod Laws
pub mod Sums
pub mod Sample
pub mod Entries
pub mod Model
