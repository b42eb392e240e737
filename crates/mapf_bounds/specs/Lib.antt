pub mod Below
pub mod Bounds
pub mod Pairs
pub mod Groups
pub mod Waiting
pub mod Told
pub mod Laws
