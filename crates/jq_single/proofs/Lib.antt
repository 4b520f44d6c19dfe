pub mod shared
pub mod Binding
pub mod Calls
pub mod UpdateTurns
