pub mod Halting
pub mod Plans
pub mod private
