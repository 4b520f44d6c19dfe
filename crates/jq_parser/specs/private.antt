pub mod Combinators
pub mod Forms
pub mod Machine
pub mod Parsing
