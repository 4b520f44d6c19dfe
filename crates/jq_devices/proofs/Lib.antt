mod Bytes
mod Noting
pub mod shared
mod Names
