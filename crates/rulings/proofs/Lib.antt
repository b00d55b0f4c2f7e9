-- What follows for rulings in memory.
pub mod Decides
pub mod Sizes
pub mod Solved
