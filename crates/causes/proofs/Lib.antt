pub mod Lists
pub mod All
