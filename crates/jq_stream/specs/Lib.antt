pub mod Streams
pub mod Texts
pub mod Stopped
pub mod Failures
pub mod Views
pub mod Runs
pub mod private
