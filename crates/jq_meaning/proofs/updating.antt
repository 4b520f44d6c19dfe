-- The law of updates.
pub mod Forms
pub mod Turns
pub mod Updates
pub mod Stays
