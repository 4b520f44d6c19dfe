-- Laws of folds over the inputs.
pub mod Outcomes
pub mod Compiled
