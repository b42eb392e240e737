-- Maps, and the files that they are read from.
pub mod Neighbours
pub mod RowStarts
pub mod RowCells
pub mod MapFaultOrder
pub mod MapFileSteps
pub mod MapFileLaws
pub mod MapFaultRanks
