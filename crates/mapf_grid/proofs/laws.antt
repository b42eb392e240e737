-- What a file means.
pub mod Unique
