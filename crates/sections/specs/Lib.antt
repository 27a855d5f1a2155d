pub mod Faults
pub mod Lengths
pub mod Notes
pub mod Section
pub mod Words
pub mod Places
