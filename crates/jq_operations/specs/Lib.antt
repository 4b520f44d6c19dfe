pub mod Callees
pub mod Language
pub mod Pieces
pub mod Outputs
pub mod Entering
pub mod private
