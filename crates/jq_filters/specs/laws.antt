-- What is proved about runs.
pub mod Unhalted
pub mod Bindings
pub mod Updates
