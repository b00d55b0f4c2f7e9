-- Writing the placement that the lent tables hold.
pub mod Held
pub mod Writing
pub mod Marked
