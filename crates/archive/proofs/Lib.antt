pub mod Writing
pub mod Paired
