-- Laws of rows: the children around a corner, corners found and stored, points from their axes, a row's values.
pub mod AroundLaws
pub mod Searching
pub mod Writing
pub mod Running
pub mod RowValues
pub mod AxesLaws
