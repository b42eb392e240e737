-- Scenario files.
pub mod RowCuts
pub mod RowFaults
pub mod RowNames
pub mod BlankEnds
pub mod FileFaults
pub mod ScenFaultRanks
