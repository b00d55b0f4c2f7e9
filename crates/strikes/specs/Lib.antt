-- How strikes stand in plain cells.
pub mod Cells
