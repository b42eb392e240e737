-- The two sides of a node, and the searches for them.
pub mod Followers
pub mod Branch
pub mod LeaderSides
pub mod LeastCosts
pub mod SideNodes
pub mod Queries
