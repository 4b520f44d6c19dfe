-- What only contracts of private functions cite.
pub mod Reading
pub mod Lines
pub mod Replies
pub mod Pieces
