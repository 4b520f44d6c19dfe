pub mod Failures
pub mod Writing
pub mod Reading
