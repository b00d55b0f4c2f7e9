-- The ruling text: which rulings it can say, how it is written and how it is read.
pub mod Words
pub mod Writer
pub mod Reader
pub mod Cells
pub mod Code
pub mod Examples
