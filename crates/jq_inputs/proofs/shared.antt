pub mod Outside
pub mod Injective
pub mod Halting
