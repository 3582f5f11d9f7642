pub mod Fitting
pub mod AnyRecord
pub mod RecordBack
pub mod Unread
pub mod Enough
pub mod HostDemand
pub mod GivenParts
