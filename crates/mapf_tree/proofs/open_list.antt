-- The nodes that wait, in order.
pub mod Rising
