-- What inner functions and laws state. No promise of a public call names these.
pub mod GridPlan
