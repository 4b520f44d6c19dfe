pub mod Firsts
pub mod Dividing
pub mod OneKind
pub mod Asking
