pub mod Names
pub mod Once
pub mod Laws
