pub mod Lawful
pub mod Reels
pub mod Takes
