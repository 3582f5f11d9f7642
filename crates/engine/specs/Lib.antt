-- A job's work.
pub mod Inner
