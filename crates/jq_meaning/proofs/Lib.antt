pub mod BreakLemmas
pub mod NoBreaks
pub mod Ranges
pub mod shared
pub mod environments
pub mod updating
