-- The placement text there and back, and the laws that its reader is proved by.
pub mod Marks
pub mod Repeats
pub mod Lists
pub mod Sides
pub mod Pairs
pub mod Short
pub mod Round
pub mod Ways
pub mod Turns
pub mod Below
pub mod Whole
