-- What is proved about outcomes.
pub mod Computed
pub mod OfThePrelude
pub mod Outcomes
