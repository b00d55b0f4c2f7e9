-- The laws that both round trips rest on, and those that the leaves are proved by.
pub mod Digits
pub mod Steps
pub mod Words
pub mod Parted
pub mod Lines
pub mod Ways
pub mod Puts
pub mod Pens
