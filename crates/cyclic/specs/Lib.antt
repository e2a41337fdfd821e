pub mod Polynomials
pub mod Words
pub mod Laws
