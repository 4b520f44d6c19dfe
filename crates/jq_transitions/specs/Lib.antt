pub mod Outcomes
pub mod private
