pub mod Out
pub mod AnyOut
pub mod Wanted
pub mod Run
pub mod Rounds
pub mod Sessions
pub mod Told
