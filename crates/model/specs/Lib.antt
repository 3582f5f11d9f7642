pub mod Part
pub mod Model
pub mod Flat
pub mod Row
pub mod Inner
