-- The search backwards, from the goal.
pub mod Tracing
pub mod Earliest
pub mod StateTable
