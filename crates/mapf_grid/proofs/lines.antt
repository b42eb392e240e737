-- Lines and words in a file.
pub mod LineCuts
pub mod Parting
