-- What an input gives to the schedule.
pub mod Plan
pub mod Sparse
pub mod OwnCorners
pub mod SameInputs
pub mod Inner
