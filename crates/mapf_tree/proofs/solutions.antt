-- The solutions in the tree, and the answer.
pub mod Descent
pub mod Solutions
pub mod OneAgent
