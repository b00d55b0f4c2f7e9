-- What full tables mean.
pub mod View
