pub mod Ways
pub mod Decided
pub mod Demanded
