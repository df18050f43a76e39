pub mod NetLimit
mod Enter
