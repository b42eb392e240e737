pub mod Answering
pub mod OneOut
mod WithoutLimit
mod Leaving
mod WorkedAhead
mod GoingOn
mod WaitingNodes
mod AgentJobs
pub mod Boards
