pub mod Number
pub mod laws
