pub mod Small
pub mod Flat
pub mod Measured
