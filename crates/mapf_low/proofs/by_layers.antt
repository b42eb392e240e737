-- The search by layers over time.
pub mod Layering
pub mod LayersGrow
