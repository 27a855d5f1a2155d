pub mod Pools
pub mod Sets
pub mod Words
