pub mod Verdict
pub mod Positions
pub mod Wording
pub mod Judged
