pub mod Colour
pub mod Group
pub mod Groups
pub mod Inner
