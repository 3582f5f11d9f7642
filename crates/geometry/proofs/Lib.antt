pub mod Grid
pub mod Inverse
pub mod Next
pub mod PointRows
pub mod Literals
pub mod Division
