-- Laws of the checker's steps.

pub mod Ways
pub mod Allowed
pub mod Replaying
pub mod Loops
pub mod Joined
pub mod Answering
pub mod Placements
pub mod Theorems
