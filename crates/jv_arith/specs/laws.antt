-- Laws of the definitions.
pub mod Unions
pub mod Splits
