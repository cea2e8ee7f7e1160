pub mod Parts
pub mod Halves
