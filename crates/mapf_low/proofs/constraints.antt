-- Sets of constraints.
pub mod Adding
pub mod SortedSets
pub mod ConstraintOrder
pub mod Marked
