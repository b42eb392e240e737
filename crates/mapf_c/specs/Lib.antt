pub mod Reply
pub mod Faults
pub mod Asks
pub mod Solved
pub mod Checked
