-- What the checker reads off tables and rows.
pub mod Step
pub mod Turns
pub mod Ends
pub mod Check
