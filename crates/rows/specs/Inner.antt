-- What the functions and the laws of this crate state. No promise of a public call names these.
pub mod Around
pub mod Axes
pub mod CornerRun
pub mod Gathered
pub mod ModelValue
pub mod Written
