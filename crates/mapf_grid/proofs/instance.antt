-- Instances: the agents of a scenario on a grid.
pub mod AgentRows
pub mod AgentFaults
pub mod InstanceOnly
pub mod InstanceFaultRanks
