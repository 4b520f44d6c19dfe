pub mod Halts
pub mod Histories
pub mod Moves
pub mod Plans
