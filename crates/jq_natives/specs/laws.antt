-- Laws of the definitions.
pub mod Sorting
