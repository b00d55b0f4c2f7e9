-- What the stability test's contracts cite.
pub mod Test
pub mod Search
pub mod Keeps
