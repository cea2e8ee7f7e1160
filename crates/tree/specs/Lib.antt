pub mod Primary
pub mod Family
pub mod Least
pub mod Down
pub mod Division
pub mod Links
pub mod Inner
