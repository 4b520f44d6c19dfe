-- What only contracts of private functions cite.
pub mod Hidden
pub mod Counts
pub mod Surveys
pub mod Pieces
pub mod Walk
pub mod Halts
