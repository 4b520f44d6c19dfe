pub mod shared
pub mod OfTexts
