-- The leaves of both texts: how bytes are cut, read and written.
pub mod Bytes
pub mod Parted
pub mod Number
pub mod Reader
pub mod Writer
pub mod Leaves
pub mod Pen
pub mod Shown
