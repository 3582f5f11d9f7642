pub mod NodeKinds
pub mod Parts
