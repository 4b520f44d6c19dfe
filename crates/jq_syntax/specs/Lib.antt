pub mod Chosen
pub mod Compiled
pub mod Reasons
pub mod SyntaxPlaces
pub mod laws
pub mod private
