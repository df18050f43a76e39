-- What the contracts of the cells cite.
pub mod Cell
