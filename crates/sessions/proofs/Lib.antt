pub mod GivingBack
pub mod Sessions
pub mod Times
