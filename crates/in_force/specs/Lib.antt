pub mod InForce
pub mod Inner
