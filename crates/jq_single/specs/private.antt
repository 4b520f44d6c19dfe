-- What only contracts of private functions cite.
pub mod Scopes
pub mod Finds
pub mod Parts
pub mod Making
pub mod Gathering
pub mod Updates
