-- What only contracts of private functions cite.
pub mod Found
pub mod Numbers
pub mod Spots
pub mod Strings
