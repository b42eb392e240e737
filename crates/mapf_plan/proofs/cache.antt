pub mod PathTimes
