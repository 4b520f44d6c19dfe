mod Closed
mod Outputs
mod Shaped
mod Compiled
mod Kept
mod Outcomes
mod Engines
