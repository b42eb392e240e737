pub mod AnyAnswer
pub mod FreeTree
pub mod FreeSearch
pub mod Laws
pub mod Together
pub mod PlaceNumbers
pub mod Told
pub mod Groups
