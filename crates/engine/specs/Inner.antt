-- What the functions and the laws of this crate state. No promise of a public call names these.
pub mod Sizes
pub mod Runs
pub mod Progress
pub mod Startable
pub mod Turns
pub mod Children
