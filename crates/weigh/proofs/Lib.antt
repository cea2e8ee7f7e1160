pub mod Answers
pub mod Checks
pub mod Weighed
pub mod ReadBack
pub mod Sizes
