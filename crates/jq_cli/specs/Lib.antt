pub mod Pieces
pub mod Command
pub mod Configuration
pub mod Answers
pub mod private
