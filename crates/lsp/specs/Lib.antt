pub mod Ten
pub mod Quantizers
pub mod Decay
pub mod States
pub mod Offsets
pub mod Histories
pub mod Events
pub mod Laws
