-- Laws of the definitions.
pub mod Fronts
pub mod BareRuns
