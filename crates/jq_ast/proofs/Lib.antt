pub mod shared
pub mod CoreNames
pub mod ModifyName
