-- Laws of folds over the inputs.
pub mod Reading
pub mod States
pub mod Machine
pub mod Statements
pub mod Programs
