pub mod Sheet
pub mod Table
pub mod Totals
pub mod Write
pub mod Inner
