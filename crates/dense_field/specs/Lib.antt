-- The dense field (rules D1 to D15) and the walks (rules W1 to W9).
pub mod Points
pub mod Field
pub mod Outcomes
pub mod Sampling
pub mod Padding
pub mod Threshold
pub mod Smoothing
pub mod Octets
pub mod Walks
pub mod Cells
pub mod Walker
pub mod Traces
pub mod Inner
