pub mod Text
pub mod Line
pub mod Digest
pub mod Inner
pub mod Tally
