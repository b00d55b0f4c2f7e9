-- What rows and tables say of the reasons.
pub mod Rows
pub mod Orders
pub mod Scans
pub mod Reasons
pub mod Answers
pub mod Left
