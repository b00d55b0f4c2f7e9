-- The laws that the functions of the C interface are proved by.
pub mod Laws
