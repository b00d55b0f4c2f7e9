-- What the solver does to rows and cells is what the meaning does to the record.
pub mod Lawful
pub mod Visiting
pub mod Turns
pub mod Ending
pub mod Searches
pub mod Whole
pub mod Guards
pub mod Fits
pub mod Sweeping
