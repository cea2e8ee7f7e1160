pub mod Merges
pub mod Records
pub mod Tables
pub mod Halves
pub mod BySubdomains
pub mod Vectors
