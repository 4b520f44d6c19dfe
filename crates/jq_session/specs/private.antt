-- What only contracts of private functions cite.
pub mod Refusals
pub mod Writing
pub mod Parts
pub mod Kept
pub mod Plans
pub mod Runs
