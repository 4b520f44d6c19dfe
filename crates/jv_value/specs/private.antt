-- What only contracts of private functions cite.
pub mod Locations
pub mod ItemGroups
pub mod Groups
pub mod Frames
pub mod FoundLocations
pub mod Steps
pub mod Removals
