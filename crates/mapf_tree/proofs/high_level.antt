-- The search over the nodes.
pub mod SearchLaws
pub mod OpenNodes
pub mod Limits
pub mod GoingOn
pub mod Expansions
pub mod Remaining
pub mod LowerBounds
pub mod Telling
