-- What only contracts of private functions cite.
pub mod Entering
pub mod Transitions
pub mod Found
pub mod Handling
