-- The placement text: how it is written, how it is read, and what the answers of the reader's functions say.
pub mod Words
pub mod Writer
pub mod Reader
pub mod Code
pub mod Examples
