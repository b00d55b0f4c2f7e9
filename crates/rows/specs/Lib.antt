-- What a row of 64 bits says of the places of a list.
pub mod Marks
pub mod Left
