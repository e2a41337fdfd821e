pub mod Pitch
pub mod Codebook
pub mod Laws
pub mod FrameLaws
pub mod Frame
