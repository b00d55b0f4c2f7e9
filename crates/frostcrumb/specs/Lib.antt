-- What the public functions leave behind.
pub mod Solve
pub mod Keeps
