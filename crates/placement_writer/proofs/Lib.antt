-- The laws that writing is proved by, and what its answers mean.
pub mod Lines
pub mod Held
pub mod Ways
pub mod Promises
pub mod Marked
