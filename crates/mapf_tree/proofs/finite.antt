-- The tree is finite.
pub mod Distinct
pub mod Universe
pub mod Measure
pub mod Finite
pub mod TakenNodes
