-- Rows of evaluations: a node's needed corners, and a leaf's points.
pub mod Inner
