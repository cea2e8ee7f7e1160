pub mod Lines
pub mod Answers
pub mod Sums
pub mod Printed
pub mod ReadBack
pub mod Holdings
pub mod Sizes
pub mod Vectors
