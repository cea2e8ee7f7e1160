pub mod Digits
pub mod Columns
pub mod Lengths
pub mod Writing
pub mod Splitting
