pub mod Orders
pub mod Replies
pub mod Rolls
pub mod Sessions
pub mod Tables
