pub mod Calls
pub mod Complaints
pub mod Kinds
pub mod Lines
pub mod Payloads
pub mod Rows
pub mod Values
pub mod Verbs
