-- Worked examples.
pub mod Depth
