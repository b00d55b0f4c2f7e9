-- Laws of rows. Digits and Coded join the bits to the marks; the others are for callers.
pub mod Digits
pub mod Marking
pub mod FirstPlace
pub mod Numbers
pub mod Filling
pub mod Coded
