pub mod Pieces
pub mod Folding
pub mod laws
