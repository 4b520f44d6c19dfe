-- Laws of the meaning of filters, of environments, and of the machine.
pub mod Breaks
pub mod KnownNames
pub mod Outwards
pub mod Names
pub mod Added
pub mod Lookups
pub mod Places
pub mod Scopes
pub mod Programs
pub mod Starts
pub mod Updating
pub mod Updates
