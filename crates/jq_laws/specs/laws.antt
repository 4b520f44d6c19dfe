-- Laws of the meaning of filters.
pub mod FilterLaws
