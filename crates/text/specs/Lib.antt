pub mod Text
pub mod Columns
pub mod Split
pub mod Inner
pub mod Writer
