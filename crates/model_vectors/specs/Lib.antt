pub mod Case
pub mod Compare
pub mod Tally
