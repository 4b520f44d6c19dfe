pub mod Numbers
pub mod Strings
pub mod Arrays
pub mod Objects
pub mod Errors
pub mod Arith
pub mod laws
pub mod private
