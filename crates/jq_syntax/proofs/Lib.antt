pub mod shared
pub mod Ending
pub mod Acceptance
pub mod Places
mod Compiled
mod Definitions
mod Nesting
mod Outcomes
mod PreludeText
pub mod Halting
mod Refused
