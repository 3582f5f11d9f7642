-- What the C functions take and answer, in numbers.
pub mod Given
pub mod NoJob
pub mod Carried
pub mod Hosted
pub mod Answers
pub mod HostLists
pub mod Demand
pub mod Needed
pub mod Version
