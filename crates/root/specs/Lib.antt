-- The definitions that the square root's contracts cite: the nearest whole number to a root, and the root of a float. `Inner` serves the
-- functions below `sqrt` and `sqrt_row` alone.
pub mod Nearest
pub mod Root
pub mod Inner
