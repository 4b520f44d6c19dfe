pub mod Items
pub mod Transitions
