pub mod Refusals
pub mod Lists
pub mod Bytes
pub mod Format
pub mod Kinds
pub mod Faults
pub mod Scans
pub mod Reading
