-- The judgement of a record.
pub mod Inner
