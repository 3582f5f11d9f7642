-- What floats do beyond their operators. The operators, their rounding and their special values are those of the toolchain's account of
-- IEEE 754 binary64, `lib.Ieee` (rule F1).
pub mod Zero
pub mod Select
pub mod Sign
pub mod Whole
