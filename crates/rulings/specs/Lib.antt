-- A ruling in memory: what its head, its table and its record say, and which rulings are legal.
pub mod Legal
pub mod Held
