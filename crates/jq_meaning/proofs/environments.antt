-- Lemmas on environments, and on where a name's binding is in them.
pub mod Binders
pub mod Found
pub mod Walks
pub mod Parts
pub mod Calls
pub mod Patterns
pub mod Known
pub mod Running
