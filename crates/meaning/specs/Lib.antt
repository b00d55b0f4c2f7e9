-- What must be believed, a file for each part of document 01.
pub mod Numbers
pub mod Lists
pub mod Placement
pub mod Full
pub mod Market
pub mod Strikes
pub mod Endings
pub mod Answers
pub mod Solver
pub mod Checker
pub mod Stability
pub mod Truth
pub mod Paper
pub mod Demands
pub mod Examples
