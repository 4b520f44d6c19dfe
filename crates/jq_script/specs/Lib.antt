pub mod Lines
pub mod Requests
pub mod Answers
pub mod Script
pub mod Serving
pub mod laws
pub mod private
