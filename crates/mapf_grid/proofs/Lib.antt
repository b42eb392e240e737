pub mod Members
pub mod Ranks
pub mod Firsts
pub mod Decide
pub mod Steps
pub mod Lists
pub mod DigitWords
pub mod Asked
