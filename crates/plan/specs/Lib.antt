pub mod Tree
pub mod Kinds
pub mod Plan
pub mod Write
pub mod Inner
