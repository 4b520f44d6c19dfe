-- What only contracts of private functions cite.
pub mod Texts
pub mod Served
pub mod Calls
pub mod Sessions
pub mod Commands
