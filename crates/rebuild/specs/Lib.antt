pub mod Target
pub mod Rebuild
