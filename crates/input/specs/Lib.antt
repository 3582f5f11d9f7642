-- What a job is made from: how long its slices have to be, and the causes by which open refuses it.
pub mod Needed
pub mod Causes
