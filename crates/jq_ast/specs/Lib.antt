pub mod Bound
pub mod Constants
pub mod Leaves
pub mod Named
pub mod CoreNames
