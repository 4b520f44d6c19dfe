-- What only contracts of private functions cite.
pub mod Placed
pub mod Firsts
