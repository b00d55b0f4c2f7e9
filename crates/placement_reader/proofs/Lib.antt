-- The laws that reading is proved by, and what its answers mean.
pub mod Fronts
pub mod Parts
pub mod Below
pub mod Ways
pub mod Refusals
pub mod Alike
pub mod Keeps
pub mod Tails
pub mod Completes
pub mod LineLaw
pub mod Promises
