pub mod Fill
pub mod Hold
pub mod Shares
pub mod Levelled
pub mod Inner
