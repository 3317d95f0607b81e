pub mod Pairings
pub mod Holdings
pub mod Markets
pub mod Blocking
pub mod Findings
pub mod Scores
pub mod Tables
