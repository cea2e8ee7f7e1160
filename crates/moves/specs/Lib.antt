pub mod Moves
pub mod Write
