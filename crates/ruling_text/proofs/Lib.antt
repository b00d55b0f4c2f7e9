-- The ruling text there and back, and the test of a ruling.
pub mod Strikes
pub mod Outcomes
pub mod Short
pub mod Round
pub mod Written
pub mod Quads
pub mod Parts
pub mod Ways
pub mod Lined
pub mod Turns
pub mod Conclusions
pub mod Whole
pub mod Says
pub mod Refusals
