pub mod Limit
