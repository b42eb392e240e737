-- The search for the distances to a goal.
pub mod Marking
pub mod Telling
pub mod LevelSearch
