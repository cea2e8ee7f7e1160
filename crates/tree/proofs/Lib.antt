pub mod Families
pub mod Linking
pub mod Weighing
pub mod Passing
pub mod Filling
pub mod Keeping
pub mod Vectors
