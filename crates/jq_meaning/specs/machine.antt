-- The machine that runs a filter step by step.
pub mod State
pub mod Stack
pub mod Operations
pub mod Evaluating
pub mod Matching
pub mod Giving
pub mod Machine
pub mod Heights
