-- Reading a placement text into the lent tables.
pub mod Reading
pub mod Code
pub mod Agree
