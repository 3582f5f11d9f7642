pub mod Values
pub mod Distance
pub mod Box
pub mod Index
pub mod Axis
pub mod Octet
pub mod Bounds
pub mod PointRow
