-- What only contracts of private functions cite.
pub mod Cutting
pub mod Sending
pub mod Answering
pub mod Gathering
pub mod Once
pub mod Valued
pub mod Blaming
pub mod Modes
pub mod Feeding
pub mod Ready
