-- What only contracts of private functions cite.
pub mod Folds
pub mod Leading
pub mod Passing
pub mod Ranges
pub mod Simple
pub mod Reaching
pub mod Tails
pub mod Updates
pub mod Forms
