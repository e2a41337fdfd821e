pub mod Numbers
pub mod Joined
pub mod Lines
pub mod OneAnswer
