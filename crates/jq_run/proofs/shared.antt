pub mod FilterRefusals
pub mod Reporting
