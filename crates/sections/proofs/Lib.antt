pub mod Acts
pub mod Words
pub mod Places
