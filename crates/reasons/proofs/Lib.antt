-- The reasons that tables and rows give are those of the meaning.
pub mod Settled
pub mod Counts
pub mod Least
pub mod Choosing
pub mod Steps
pub mod Starting
pub mod Tallies
pub mod Noting
pub mod Lefts
