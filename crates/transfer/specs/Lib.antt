pub mod Due
pub mod Matching
pub mod Apply
pub mod Inner
pub mod List
