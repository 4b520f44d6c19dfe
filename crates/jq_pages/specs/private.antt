-- What only contracts of private functions cite.
pub mod Reruns
pub mod Pages
pub mod Placed
pub mod Edits
pub mod Bounds
pub mod Cuts
pub mod Groups
pub mod Moves
pub mod Keeps
pub mod Made
