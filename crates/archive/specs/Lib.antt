pub mod ZOrder
pub mod Archive
pub mod Inner
