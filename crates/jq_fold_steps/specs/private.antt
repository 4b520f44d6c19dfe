-- What only contracts of private functions cite.
pub mod Parts
pub mod Entered
pub mod Starting
pub mod Collecting
