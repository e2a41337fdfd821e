pub mod Layout
pub mod Tests
pub mod Records
pub mod Headers
pub mod Lawful
pub mod Reels
