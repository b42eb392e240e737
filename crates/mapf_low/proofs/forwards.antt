-- The search forwards, by f-levels.
pub mod Closing
pub mod FLevelStates
pub mod FLevelLists
pub mod Searching
pub mod Grown
pub mod Leading
pub mod Found
pub mod Chains
pub mod Taking
