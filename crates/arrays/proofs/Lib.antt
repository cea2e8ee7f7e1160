pub mod Padded
pub mod Tabulate
