pub mod CodeBits
pub mod Layouts
pub mod Guarded
pub mod Laws
