pub mod Ways
pub mod Facts
pub mod Records
pub mod ReadBack
pub mod Sizes
pub mod WorkedSteps
pub mod Answers
