pub mod Ends
pub mod Reading
