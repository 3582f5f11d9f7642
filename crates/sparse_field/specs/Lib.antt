-- The sparse field: what open, step and drop do, and what holds of every list of them.
pub mod Calls
pub mod Demand
pub mod Inner
