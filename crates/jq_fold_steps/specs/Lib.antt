pub mod Bindings
pub mod Folded
pub mod Filters
pub mod States
pub mod laws
pub mod private
