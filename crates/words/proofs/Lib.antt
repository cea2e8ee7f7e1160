pub mod Words
pub mod Records
pub mod Buffer
pub mod Writing
