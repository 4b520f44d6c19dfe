pub mod Stages
pub mod Sessions
pub mod Served
pub mod Explained
pub mod Blaming
pub mod Stopped
pub mod Commands
pub mod private
