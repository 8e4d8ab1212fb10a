pub mod Profile
pub mod TwoRate
