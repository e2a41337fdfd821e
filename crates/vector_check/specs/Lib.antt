pub mod Words
pub mod Differences
pub mod Tallies
pub mod Packs
pub mod Unpacks
pub mod Limits
pub mod Reels
