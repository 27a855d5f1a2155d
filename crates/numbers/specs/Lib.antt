pub mod Cases
pub mod Common
pub mod Encoded
pub mod Grouping
pub mod Leb
pub mod Orders
pub mod Reading
