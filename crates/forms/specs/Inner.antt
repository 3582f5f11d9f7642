-- What the inner functions and the laws of this crate state. No promise of a public call names these.
pub mod Cuts
