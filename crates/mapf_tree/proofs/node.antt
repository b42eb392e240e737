-- Nodes as they are kept.
pub mod Chains
