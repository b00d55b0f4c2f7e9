-- Laws of strikes in cells.
--     Encoding, Rows       what is put into cells is read back; a record filled from cells, and cells from a record
pub mod Encoding
pub mod Rows
