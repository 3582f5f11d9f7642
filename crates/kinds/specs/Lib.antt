-- The kinds of a grid's children.
pub mod Inner
