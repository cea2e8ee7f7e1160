pub mod Call
pub mod Layout
pub mod Renew
pub mod Tally
pub mod Calls
pub mod Inner
