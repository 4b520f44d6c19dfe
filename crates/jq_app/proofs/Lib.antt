pub mod Blaming
pub mod Names
pub mod Keeping
pub mod Outcomes
pub mod SessionRefusals
pub mod Live
mod Explained
