-- What the public functions promise follows from what their cores promise.
pub mod Telling
pub mod Keeps
