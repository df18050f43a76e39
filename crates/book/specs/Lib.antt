pub mod Refusals
pub mod Rules
pub mod Model
pub mod Calls
pub mod Items
