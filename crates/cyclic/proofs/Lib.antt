pub mod Linear
pub mod Shifts
pub mod Distance
pub mod Changes
pub mod Sent
pub mod Readings
pub mod Columns
