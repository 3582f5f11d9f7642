-- What the functions below `sqrt` and `sqrt_row` state. No promise of a public call names these.
pub mod Reduced
pub mod Trials
