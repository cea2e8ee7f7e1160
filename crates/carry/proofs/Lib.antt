pub mod Answers
pub mod Checks
pub mod Carried
pub mod ReadBack
pub mod Sizes
