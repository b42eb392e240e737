-- The search forwards, by f-levels.
pub mod FLevels
pub mod Chain
pub mod Taken
