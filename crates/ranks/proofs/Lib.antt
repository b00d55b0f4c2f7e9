-- Laws of places on a list, and of the tables' market.

pub mod Places
pub mod Tables
pub mod Held
