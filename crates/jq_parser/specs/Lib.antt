pub mod Refusals
pub mod private
pub mod laws
