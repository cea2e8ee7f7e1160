pub mod Claim
pub mod Rest
pub mod InPlace
