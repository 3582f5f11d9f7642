pub mod Lines
pub mod Parts
pub mod Reading
pub mod Texts
pub mod OnForm
pub mod NanBits
pub mod Inner
