-- What only contracts of private functions cite.
pub mod Program
pub mod Values
pub mod Levels
pub mod Found
pub mod PathCalls
pub mod CoreCalls
pub mod Outermost
pub mod Ranges
pub mod Paths
pub mod Bodies
