pub mod Pitches
pub mod Codebooks
pub mod Frames
pub mod Whole
