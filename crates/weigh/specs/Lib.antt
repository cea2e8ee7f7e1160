pub mod Checks
pub mod Weigh
pub mod Inner
