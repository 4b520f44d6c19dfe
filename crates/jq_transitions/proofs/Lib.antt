pub mod Moving
pub mod Comings
pub mod Cells
pub mod Tasks
pub mod Cutting
pub mod Transitions
