pub mod Front
pub mod Lines
pub mod Planned
pub mod LongInput
pub mod StepD
