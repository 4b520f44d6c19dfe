pub mod private
pub mod Programs
pub mod Undefined
