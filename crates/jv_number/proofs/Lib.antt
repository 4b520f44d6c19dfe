pub mod Shifts
pub mod Grammar
pub mod Same
