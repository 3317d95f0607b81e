mod Sides
mod Offers
mod Keeping
mod NewRows
mod RankTables
mod Filling
mod Sums
mod Standing
mod Rooms
mod Seeking
pub mod Outcomes
pub mod Computing
pub mod Listed
pub mod Worked
mod Partners
mod Links
mod BoardPairings
mod Checking
mod AtTables
mod Ranges
