-- The grid of a sparse field (rules G1 to G18), and what a grid can be.
pub mod Blocks
pub mod Nodes
pub mod Boxes
pub mod Axes
pub mod Corners
pub mod Leaves
pub mod Kinds
pub mod Pruning
pub mod CornerList
pub mod Counting
pub mod Limits
pub mod Inner
