pub mod Words
pub mod Checks
pub mod Buffer
pub mod Answer
pub mod Tests
