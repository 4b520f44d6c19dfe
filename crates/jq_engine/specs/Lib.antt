pub mod Engine
pub mod Readiness
pub mod private
