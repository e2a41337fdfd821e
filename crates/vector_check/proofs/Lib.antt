pub mod WordLemmas
pub mod Found
pub mod PackLemmas
pub mod UnpackLemmas
pub mod ReelLemmas
pub mod LimitLemmas
pub mod TallyLemmas
