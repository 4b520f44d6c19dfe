-- What only contracts of private functions cite.
pub mod Checks
pub mod Reading
pub mod Trees
