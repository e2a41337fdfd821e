pub mod CommandLine
pub mod Input
