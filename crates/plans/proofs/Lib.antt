pub mod Plans
pub mod OwnCorners
pub mod SamePlans
pub mod NodeKinds
pub mod Lawful
