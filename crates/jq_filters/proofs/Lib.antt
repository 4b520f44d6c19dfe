pub mod shared
pub mod Around
pub mod Accepting
pub mod Known
pub mod Unhalted
pub mod NeverHalting
