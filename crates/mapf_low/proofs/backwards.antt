-- The search backwards, from the goal.
pub mod StateTables
pub mod OutOfReach
pub mod Placing
pub mod BackwardCosts
pub mod AscendingNeighbours
pub mod Advancing
