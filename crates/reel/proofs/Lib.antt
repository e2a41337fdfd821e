pub mod First
pub mod Reading
pub mod Lawfulness
