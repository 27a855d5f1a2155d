pub mod Cases
pub mod Leb
mod Names
pub mod Orders
mod Turns
