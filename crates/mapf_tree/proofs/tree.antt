-- The order of keys and names, and the tables of distances.
pub mod Tables
pub mod Keyed
pub mod NameTurns
pub mod NameOrder
