pub mod Table
pub mod Clients
