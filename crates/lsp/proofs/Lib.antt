pub mod Sizes
pub mod Returns
pub mod Tens
pub mod Decays
pub mod Ranges
pub mod Nearest
pub mod Runs
pub mod Replays
