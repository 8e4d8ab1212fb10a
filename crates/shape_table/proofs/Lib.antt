pub mod Copies
pub mod Read
pub mod Search
pub mod Octets
pub mod Filled
