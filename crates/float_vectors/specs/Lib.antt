pub mod Case
pub mod Tally
