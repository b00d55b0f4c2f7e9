-- Laws that several proofs cite, and the theorems about the tables.
pub mod Tests
pub mod Orders
pub mod Series
pub mod One
pub mod Round
pub mod Entries
pub mod Walk
pub mod Seen
pub mod Same
pub mod Lines
pub mod Receipts
pub mod Views
pub mod Examples
