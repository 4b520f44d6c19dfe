pub mod Single
pub mod private
