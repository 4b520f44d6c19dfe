-- What only contracts of private functions cite, and the proof that the order of values is total.
pub mod Pairs
pub mod Names
pub mod Slots
pub mod Order
