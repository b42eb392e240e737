mod ByLast
pub mod OwnPaths
mod Places
mod Arrivals
mod FirstArrival
pub mod HigherBounds
mod Growing
mod Bests
mod Reading
mod Rising
mod Ending
pub mod Sets
pub mod SameSets
