-- What is proved about numbers.
pub mod Numbers
