pub mod Balances
mod Enter
