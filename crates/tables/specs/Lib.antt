-- What the tables' contracts cite.
pub mod Cells
pub mod Decode
pub mod Answers
pub mod Kinds
pub mod Walk
