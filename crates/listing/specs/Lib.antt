pub mod Lines
pub mod Values
pub mod Listing
pub mod Unlisted
pub mod Written
pub mod Listed
pub mod Inner
