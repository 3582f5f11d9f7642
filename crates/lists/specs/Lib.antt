pub mod Tabulate
pub mod Filled
pub mod Slices
pub mod Sums
pub mod Flags
pub mod Ranges
