pub mod Steps
pub mod Collisions
pub mod OfPairConflicts
