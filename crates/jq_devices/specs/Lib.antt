pub mod Files
pub mod private
pub mod Watched
pub mod Faults
pub mod Writing
pub mod Reading
pub mod Notes
pub mod Places
