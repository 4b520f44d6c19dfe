pub mod Halting
pub mod States
pub mod Starts
pub mod Splices
pub mod Sessions
pub mod laws
pub mod private
