pub mod Figures
pub mod Listings
pub mod Market
pub mod Pairings
pub mod Places
pub mod Scorings
pub mod Stability
pub mod TableLaws
