-- What is proved about the grammar, and the parser on lists.
pub mod OneTree
pub mod Combinators
pub mod Forms
pub mod Machine
pub mod Parsed
