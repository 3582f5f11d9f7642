-- Laws of records and calls, and demand 3.
pub mod JudgedRecords
pub mod Results
pub mod Opening
pub mod Stepping
pub mod CallLaws
pub mod Demand
pub mod WholeJob
