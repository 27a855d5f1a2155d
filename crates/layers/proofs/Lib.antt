pub mod Caps
pub mod Relocates
pub mod Positions
