-- What is proved about the state's types.
pub mod Propositions
