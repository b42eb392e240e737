mod Prelude
pub mod ConstraintSets
pub mod Plans
pub mod Unique
pub mod RootNodes
pub mod sides
pub mod finite
pub mod solutions
pub mod high_level
