pub mod Calls
pub mod Lent
pub mod Words
