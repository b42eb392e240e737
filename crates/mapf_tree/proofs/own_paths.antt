-- Own paths, and what is remembered of them.
pub mod FreePlans
pub mod FreeSearches
pub mod FreeSideCosts
pub mod FreeSides
pub mod PathCaches
pub mod StartTables
