-- Laws of the definitions.
pub mod AtOnce
pub mod PlainPaths
