-- The state between two visits, and what the rows say at the end.
pub mod Going
pub mod Ends
pub mod Solved
pub mod Answer
pub mod Sweeping
