mod SideSets
pub mod LeastPaths
mod Costs
mod Fresh
mod Taking
mod Roots
mod Sides
mod Grouped
mod Covering
mod Work
pub mod Collisions
mod StartTables
pub mod Steps
pub mod Telling
mod GroupSums
pub mod GroupLaws
pub mod Parts
pub mod ChosenGroups
mod SmallGroups
mod Asking
mod JointLists
mod JointSums
mod AgentPlaces
mod Numbered
mod Looks
mod JointSteps
mod Goings
pub mod JointSearch
mod PlansWithin
pub mod TogetherAgents
