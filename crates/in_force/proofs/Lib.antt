pub mod Laws
pub mod Stretch
pub mod Same
pub mod InForce
