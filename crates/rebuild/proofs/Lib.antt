pub mod Chains
pub mod Choices
pub mod TargetSums
pub mod Turns
pub mod Loops
pub mod Rebuilding
pub mod Vectors
