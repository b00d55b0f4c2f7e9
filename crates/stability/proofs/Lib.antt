-- Laws that several proofs cite, and the theorems about the stability test.

pub mod Firsts
pub mod Seats
pub mod Blocking
pub mod Guards
pub mod Answer
