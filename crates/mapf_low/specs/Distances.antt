-- The search for the distances to a goal.
pub mod Levels
pub mod Mark
