-- What the functions of the C interface return and leave behind.
pub mod Calls
