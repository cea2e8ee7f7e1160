pub mod Checks
pub mod Carry
pub mod Inner
