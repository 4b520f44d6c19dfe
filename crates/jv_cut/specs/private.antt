-- What only contracts of private functions cite.
pub mod Scan
pub mod Walk
pub mod Passed
pub mod Marks
pub mod Fields
pub mod RestCode
